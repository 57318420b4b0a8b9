-- A rule's conclusion and the copies' variables read back from the graph of its premises: the store stays well sorted, and the conclusion is a
-- judgment's pattern.
use Rattle.std.specs.Prelude.{◌≡◌, refl, Bool, false, List, [], ◌∷◌, map, ℕ, suc, ◌<◌, length, get_or}
use Rattle.std.proofs.Common.{sym, ap, ◌∙◌, arith}
use Rattle.std.proofs.Math.Bool.{true}
use Rattle.std.proofs.Math.Option.{none}
use Rattle.definition.specs.Test.{never, all, ◌and◌}
use Rattle.definition.specs.Pack.{Node, no_node, Pack}
use Rattle.definition.specs.Good.{Below, Good, Few}
use Rattle.definition.proofs.Laws.Grow.{below_more}
use Rattle.definition.specs.Verdict.{Bound}
use Rattle.definition.specs.Store.{is_variable}
use Rattle.definition.specs.Graph.{Vertex, Graph, vertex, root, is_var, ends, circular}
use Rattle.definition.specs.Analysis.{copied, Numbered, Resolved, resolve_at, resolve}
use Rattle.theory.specs.Unification.Solve.{sort_at, Formed, Begins}
use Rattle.theory.specs.Unification.Forest.{root_self}
use Rattle.theory.specs.Unification.Circle.{acyclic_ends}
use Rattle.theory.specs.Copies.Begin.{sort_at_begins, root_begins}
use Rattle.theory.specs.Copies.Copying.{pattern_sort}
use Rattle.theory.specs.Walks.Memo.{has, has_value}
use Rattle.theory.specs.Patterns.Interned.{Grows, grows_then, grows_long, grows_at, interned}
use Rattle.theory.specs.Patterns.Fixed.{Each, Downward}
use Rattle.emit_theory.specs.Stores.{Sorted, SortedStore}
use Rattle.emit_theory.specs.Graph.Intern.{sort_grows, symbol-node}
use Rattle.emit_theory.specs.Built.Lifts.{HoldsAll}
use Rattle.emit_theory.specs.Built.Closed.{Pass, Closed}
use Rattle.emit_theory.specs.Built.Valued.{GroundValues, is_valued}
use Rattle.emit_theory.specs.Built.Runs.{own_sorts}
use Rattle.emit_theory.specs.Built.Reads.{stored_all, resolve_sorted}

-- in a graph without a circle all nodes end
all_end : (g : Graph) → circular g ≡ false → (xs : List ℕ) → Below (length g) xs → all (λ x. ends (suc (length g)) g x) xs ≡ true
unfolding all ◌and◌
all_end g A [] b = refl
all_end g A (x ∷ xs) b = rw (acyclic_ends g A x b.0, ◌and◌) (all_end g A xs b.1)

-- the only pattern of its sort
first_of : (P : Pack) (s : List Node) (i so : ℕ) (ps : List ℕ) → Sorted P s i (so ∷ []) ps → (get_or ps 0 0 < i) × (pattern_sort P s (get_or ps 0 0) ≡ so)
first_of P s i so [] h = absurd h
first_of P s i so (p ∷ ps) h = (h.0, h.1)

-- nodes of a graph that pass
abbrev Passing : Graph → (ℕ → Bool) → ℕ → Type 0
Passing g H x = (x < length g) × (H x ≡ true)

each_passing : (g : Graph) (H : ℕ → Bool) (xs : List ℕ) → Below (length g) xs → Pass H xs → Each (Passing g H) xs
each_passing g H [] b p = tt
each_passing g H (x ∷ xs) b p = ((b.0, p.0), each_passing g H xs b.1 p.1)

-- what reading back leaves: a well-sorted store that has grown, with a pattern of a sort
pub record ReadBack (P : Pack) (so p : ℕ) (s t : List Node) : Type 0 where
  pub sorted : SortedStore P t
  pub grows : Grows s t
  pub within : p < length t
  pub sort : pattern_sort P t p ≡ so
  pub applied : is_variable (get_or t p no_node) ≡ false

module _ (P : Pack) (good : Good P) (few : Few P) (g top : Graph) (F : Formed P g) (T : Formed P top) (b : Begins g top) (A : circular top ≡ false)
    (values : List Bound) (G : GroundValues P g values) (C : Closed (is_valued g values) g) where
  -- nodes of the premises' graph that have a value, and with them all below
  downward : Downward top (Passing g (is_valued g values))
  downward = record {
    roots = λ x l q.
        let r : root top x ≡ root g x = root_begins P g top b F x q.0 in
        rw r ((F x q.0).within, ap (has values) (root_self g (root g x) (F x q.0).rooted) ∙ q.1);
    args = λ r l a v q.
        let same = b.kept r q.0 in
        rw same (each_passing g (is_valued g values) (vertex g r).args (F r q.0).below
        (C.apps r q.0 (ap (λ (v : Vertex). v.link) (sym same) ∙ a) (ap is_var (sym same) ∙ v) q.1));
  }

  -- the variables of copies
  entries_read : (xs : List ℕ) → Below (length g) xs → Pass (is_valued g values) xs → (st : Numbered) → SortedStore P st.store
      → HoldsAll P (map (sort_at P top) xs) st.store (stored_all (resolve (suc (length top)) P top values false xs st))
  entries_read xs w p st S =
      let w' = below_more (length g) (length top) xs b.longer w in
      resolve_sorted P good few top T values false (Passing g (is_valued g values)) downward
      (λ r l a v q f.
      let same = b.kept r q.0 in
      let e : root g r ≡ r = root_self g r (ap (λ (v : Vertex). v.link) (sym same) ∙ a) in
      let m = has_value values r (ap (has values) (sym e) ∙ q.1) in
      let n = copied values r in
      let G' = G r n m in
      (n, m, G'.1, G'.2 ∙ sym (sort_at_begins P g top b r q.0)))
      (suc (length top)) xs st S w' (each_passing g (is_valued g values) xs w p) (all_end top A xs w') (map (sort_at P top) xs) (own_sorts P top xs)

  -- a node by itself, all its variables numbered
  conclusion_read : (x so : ℕ) → x < length top → sort_at P top x ≡ so → (st : Numbered) → SortedStore P st.store
      → HoldsAll P (so ∷ []) st.store (stored_all (resolve (suc (length top)) P top values true (x ∷ []) st))
  conclusion_read x so l e st S =
      resolve_sorted P good few top T values true (λ y. Unit {0}) (record { roots = λ y m q. tt; args = λ r m a v q. units (vertex top r).args })
      (λ r m a v q f. never (cc)) (suc (length top)) (x ∷ []) st S (l, tt) (tt, tt) (all_end top A (x ∷ []) (l, tt)) (so ∷ []) (e, tt)
    where
      units : (ys : List ℕ) → Each (λ y. Unit {0}) ys
      units [] = tt
      units (y ∷ ys) = (tt, units ys)

  -- an application is read back as one
  applied-at : (deeper : List ℕ → Numbered → Resolved) (r : ℕ) (st : Numbered) → r < length top → is_var (vertex top r) ≡ false
      → let one = resolve_at P top values true deeper r st in is_variable (get_or one.state.store one.pattern no_node) ≡ false
  unfolding resolve_at
  applied-at deeper r st l v =
      let args = deeper (vertex top r).args st in
      let n : Node = record { head = (vertex top r).head; args = args.patterns } in
      rw (v, resolve_at) (ap is_variable (interned args.state.store n).is ∙ symbol-node P few n ((T r l).head v))

  conclusion-applied : (d x : ℕ) (st : Numbered) → x < length top → (vertex top x).link ≡ none → is_var (vertex top x) ≡ false
      → let first = resolve (suc d) P top values true (x ∷ []) st in is_variable (get_or first.state.store (get_or first.patterns 0 0) no_node) ≡ false
  unfolding resolve
  conclusion-applied d x st l a v = applied-at (λ ys s. resolve d P top values true ys s) (root top x) st (T x l).within (ap (λ y. is_var (vertex top y)) (root_self top x a) ∙ v)

  -- both, one after the other
  pub rule_read : (x so : ℕ) → x < length top → sort_at P top x ≡ so → (vertex top x).link ≡ none → is_var (vertex top x) ≡ false → (xs : List ℕ) → Below (length g) xs → Pass (is_valued g values) xs → (st : Numbered) → SortedStore P st.store
      → let first = resolve (suc (length top)) P top values true (x ∷ []) st in
      ReadBack P so (get_or first.patterns 0 0) st.store (resolve (suc (length top)) P top values false xs first.state).state.store
  rule_read x so l e a v xs w p st S =
      let first = resolve (suc (length top)) P top values true (x ∷ []) st in
      let s = first.state.store in
      let N = conclusion_read x so l e st S in
      let E = entries_read xs w p first.state N.sorted in
      let t = (resolve (suc (length top)) P top values false xs first.state).state.store in
      let o = first_of P s (length s) so first.patterns N.patterns in
      record {
        sorted = E.sorted;
        grows = grows_then st.store s t N.grows E.grows;
        within = omega (arith, o.0, grows_long s t E.grows);
        sort = sort_grows P s t E.grows (get_or first.patterns 0 0) o.0 ∙ o.1;
        applied = rw (grows_at s t no_node (get_or first.patterns 0 0) E.grows o.0) (conclusion-applied (length top) x st l a v);
      }
