-- Terms put into a well-sorted graph, a node for each place: it stays well sorted, and a term's node has the term's sort.
use Rattle.std.specs.Prelude.{◌≡◌, Bool, true, false, List, [], ◌∷◌, ℕ, ◌<◌, length}
use Rattle.std.proofs.Common.{◌∙◌, arith}
use Rattle.definition.specs.Test.{is, see}
use Rattle.definition.specs.Pack.{Term, Terms, var, app, nil, cons, Pack, symbol_of, sort_of}
use Rattle.definition.specs.Good.{Few}
use Rattle.definition.specs.Verdict.{Bound}
use Rattle.definition.specs.Graph.{Graph, Grown}
use Rattle.definition.specs.Analysis.{GrownAll, copied}
use Rattle.emission.specs.Global.{node_of_l, lower_term, lower_terms}
use Rattle.emission.specs.Lay.{open_variable}
use Rattle.theory.specs.Unification.Solve.{sort_at, Begins}
use Rattle.theory.specs.Copies.Begin.{begins_refl, begins_trans, sort_at_begins}
use Rattle.emit_theory.specs.Graphs.{SortedGraph}
use Rattle.emit_theory.specs.Graph.Push.{Put, PutAll, put-variable}
use Rattle.emit_theory.specs.Graph.Instantiate.{put-over}

-- a term of a sort, its variables having these sorts; terms of these sorts
abbrev mutual
  pub TermOf : Pack → (ℕ → ℕ) → Term → ℕ → Type 0
  TermOf P sorts (var k) so = sorts k ≡ so
  TermOf P sorts (app h ts) so = (h < length P.symbols) × ((symbol_of P h).output ≡ so) × TermsOf P sorts ts (symbol_of P h).inputs

  pub TermsOf : Pack → (ℕ → ℕ) → Terms → List ℕ → Type 0
  TermsOf P sorts nil [] = Unit {0}
  TermsOf P sorts nil (so ∷ ss) = ⊥
  TermsOf P sorts (cons t ts) [] = ⊥
  TermsOf P sorts (cons t ts) (so ∷ ss) = TermOf P sorts t so × TermsOf P sorts ts ss

-- in every well-sorted graph that begins with g each variable comes to a node of its sort
abbrev pub VariablesPut : Pack → (ℕ → ℕ) → Graph → (ℕ → Graph → Grown) → Type 0
VariablesPut P sorts g variable = (k : ℕ) (h : Graph) → Begins g h → SortedGraph P h → Put P (sorts k) h (variable k h)

-- one node was put there, then others
put_then : (P : Pack) (so : ℕ) (ss : List ℕ) (g : Graph) (r : Grown) (rs : GrownAll) → Put P so g r → PutAll P ss r.graph rs
    → PutAll P (so ∷ ss) g (record { ats = r.at ∷ rs.ats; graph = rs.graph })
put_then P so ss g r rs R Rs = record {
  begins = begins_trans g r.graph rs.graph R.begins Rs.begins;
  sorted = Rs.sorted;
  inside = (omega (arith, R.inside, Rs.begins.longer), Rs.inside);
  sorts = (sort_at_begins P r.graph rs.graph Rs.begins r.at R.inside ∙ R.sort, Rs.sorts);
}

-- a well-sorted term in a graph, and terms
module _ (P : Pack) (few : Few P) (sorts : ℕ → ℕ) (g : Graph) (variable : ℕ → Graph → Grown) (puts : VariablesPut P sorts g variable) where
  mutual
    unfolding lower_term

    pub lower_term_sorted : (t : Term) (so : ℕ) (h : Graph) → Begins g h → SortedGraph P h → TermOf P sorts t so → Put P so h (lower_term variable t h)
    lower_term_sorted (var k) so h b S e = let R = puts k h b S in record { begins = R.begins; sorted = R.sorted; inside = R.inside; sort = R.sort ∙ e }
    lower_term_sorted (app y ts) so h b S w = put-over P few y so h (lower_terms variable ts h) w.0 w.1 (lower_terms_sorted ts (symbol_of P y).inputs h b S w.2)

    pub lower_terms_sorted : (ts : Terms) (ss : List ℕ) (h : Graph) → Begins g h → SortedGraph P h → TermsOf P sorts ts ss → PutAll P ss h (lower_terms variable ts h)
    lower_terms_sorted nil [] h b S w = record { begins = begins_refl h; sorted = S; inside = tt; sorts = tt }
    lower_terms_sorted nil (so ∷ ss) h b S w = absurd w
    lower_terms_sorted (cons t ts) [] h b S w = absurd w
    lower_terms_sorted (cons t ts) (so ∷ ss) h b S w =
        let first = lower_term variable t h in
        let F = lower_term_sorted t so h b S w.0 in
        let R = lower_terms_sorted ts ss first.graph (begins_trans g h first.graph b F.begins) F.sorted w.1 in
        put_then P so ss h first (lower_terms variable ts first.graph) F R

-- L stands for a variable of its sort
put_L : (P : Pack) (so : ℕ) (g h : Graph) → node_of_l < length g → sort_at P g node_of_l ≡ so → Begins g h → SortedGraph P h → Put P so h (record { at = node_of_l; graph = h })
put_L P so g h l s b S = record { begins = begins_refl h; sorted = S; inside = omega (arith, b.longer); sort = sort_at_begins P g h b node_of_l l ∙ s }

-- L for every variable, all of L's sort
pub variables_L : (P : Pack) (so : ℕ) (g : Graph) → node_of_l < length g → sort_at P g node_of_l ≡ so → VariablesPut P (λ k. so) g (λ k h. record { at = node_of_l; graph = h })
variables_L P so g l s k h b S = put_L P so g h l s b S

-- the sort of a class's variable: L's for one that is chosen, its ground value's for another
unfoldable pub open_sort : Pack → ℕ → (ℕ → Bool) → List Bound → ℕ → ℕ
open_sort P so chosen values k = elim (chosen k) [ true ↦ so | false ↦ sort_of P (copied values k) ]

-- L for chosen variables, a new variable for each place of the others
pub variables_open : (P : Pack) (so : ℕ) (chosen : ℕ → Bool) (values : List Bound) (g : Graph) → node_of_l < length g → sort_at P g node_of_l ≡ so
    → VariablesPut P (open_sort P so chosen values) g (open_variable P chosen values)
unfolding open_variable open_sort
variables_open P so chosen values g l s k h b S = elim (see (chosen k)) [
  | is true e ↦ rw (e, open_variable, open_sort) (put_L P so g h l s b S)
  | is false e ↦ rw (e, open_variable, open_sort) (put-variable P h (sort_of P (copied values k)) false false S)
]
