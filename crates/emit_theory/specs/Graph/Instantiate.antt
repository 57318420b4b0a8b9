-- A rule's term in a well-sorted graph: over nodes that stand for its variables its node has the term's sort, and the graph stays well sorted.
use Rattle.std.specs.Prelude.{◌≡◌, List, [], ◌∷◌, ℕ, ◌<◌, length}
use Rattle.std.proofs.Common.{◌∙◌}
use Rattle.definition.specs.Pack.{Term, Terms, var, app, nil, cons, Pack, symbol_of}
use Rattle.definition.specs.Good.{Sorted, SortedAll, Few}
use Rattle.definition.proofs.Laws.Grow.{below_more}
use Rattle.definition.specs.Graph.{Graph, Grown, applied, push}
use Rattle.definition.specs.Analysis.{GrownAll, instantiate, instantiate_all}
use Rattle.theory.specs.Copies.Begin.{begins_refl, begins_trans, SortsAt-begins}
use Rattle.emit_theory.specs.Graphs.{SortedGraph}
use Rattle.emit_theory.specs.Graph.Kept.{keeps_begins, Standing, standing_kept}
use Rattle.emit_theory.specs.Graph.Push.{Put, PutAll, put-applied}

-- an application over nodes that were put there
pub put-over : (P : Pack) → Few P → (h so : ℕ) (g : Graph) (r : GrownAll) → h < length P.symbols → (symbol_of P h).output ≡ so → PutAll P (symbol_of P h).inputs g r
    → Put P so g (push r.graph (applied h r.ats))
put-over P few h so g r l o R =
    let one = put-applied P few r.graph h r.ats R.sorted l R.inside R.sorts in
    record { begins = begins_trans g r.graph (push r.graph (applied h r.ats)).graph R.begins one.begins; sorted = one.sorted; inside = one.inside; sort = one.sort ∙ o }

-- nodes were put there, then one more: its place is ahead of theirs
pub put_first : (P : Pack) (so : ℕ) (ss : List ℕ) (g : Graph) (rs : GrownAll) (r : Grown) → PutAll P ss g rs → Put P so rs.graph r
    → PutAll P (so ∷ ss) g (record { ats = r.at ∷ rs.ats; graph = r.graph })
put_first P so ss g rs r Rs R = record {
  begins = begins_trans g rs.graph r.graph Rs.begins R.begins;
  sorted = R.sorted;
  inside = (R.inside, below_more (length rs.graph) (length r.graph) rs.ats R.begins.longer Rs.inside);
  sorts = (R.sort, SortsAt-begins P rs.graph r.graph R.begins rs.ats ss Rs.inside Rs.sorts);
}

-- a well-sorted term in a graph, and terms
mutual
  unfolding instantiate

  pub instantiate_sorted : (P : Pack) → Few P → (vars env : List ℕ) (t : Term) (so : ℕ) (g : Graph) → SortedGraph P g → Standing P vars env g → Sorted P vars t so → Put P so g (instantiate t env g)
  instantiate_sorted P few vars env (var k) so g S E h = let e = E k h.0 in record { begins = begins_refl g; sorted = S; inside = e.0; sort = e.1 ∙ h.1 }
  instantiate_sorted P few vars env (app h ts) so g S E w =
      put-over P few h so g (instantiate_all ts env g) w.0 w.1 (instantiate_all_sorted P few vars env ts (symbol_of P h).inputs g S E w.2)

  pub instantiate_all_sorted : (P : Pack) → Few P → (vars env : List ℕ) (ts : Terms) (ss : List ℕ) (g : Graph) → SortedGraph P g → Standing P vars env g → SortedAll P vars ts ss
      → PutAll P ss g (instantiate_all ts env g)
  instantiate_all_sorted P few vars env nil [] g S E h = record { begins = begins_refl g; sorted = S; inside = tt; sorts = tt }
  instantiate_all_sorted P few vars env nil (so ∷ ss) g S E h = absurd h
  instantiate_all_sorted P few vars env (cons t ts) [] g S E h = absurd h
  instantiate_all_sorted P few vars env (cons t ts) (so ∷ ss) g S E h =
      let rs = instantiate_all ts env g in
      let Rs = instantiate_all_sorted P few vars env ts ss g S E h.1 in
      let R = instantiate_sorted P few vars env t so rs.graph Rs.sorted (standing_kept P vars env g rs.graph (keeps_begins g rs.graph Rs.begins) E) h.0 in
      put_first P so ss g rs (instantiate t env rs.graph) Rs R
