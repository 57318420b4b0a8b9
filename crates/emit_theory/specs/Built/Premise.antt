-- One premise of a rule: its instance unified with a fresh copy of its ref's conclusion. The graph stays well formed, what passes with the
-- instance passes with the copy's variables, and the premise has the conclusion's head.
use Rattle.std.specs.Prelude.{◌≡◌, Bool, true, false, List, [], ◌∷◌, ℕ, ◌<◌, ◌≤◌, length, get_or}
use Rattle.std.proofs.Common.{sym, ap, ◌∙◌, arith}
use Rattle.std.proofs.Math.Option.{none, some}
use Rattle.definition.specs.Test.{is, see}
use Rattle.definition.specs.Pack.{prop, Term, Node, no_node, Pack}
use Rattle.definition.specs.Good.{Below, Sorted, Few}
use Rattle.definition.specs.Verdict.{Bound, value_of}
use Rattle.definition.specs.Store.{is_variable}
use Rattle.definition.specs.Graph.{Vertex, Graph, Grown, is_var, unify}
use Rattle.definition.specs.Analysis.{copied, Copy, copy, instantiate}
use Rattle.definition.specs.Classes.{in_order}
use Rattle.theory.specs.Unification.Solve.{sort_at, Formed}
use Rattle.theory.specs.Unification.Kept.{same-sort}
use Rattle.theory.specs.Unification.Unify.{Says, unify_says}
use Rattle.theory.specs.Copies.Begin.{begins_trans, sort_at_begins}
use Rattle.theory.specs.Copies.Copying.{pattern_sort}
use Rattle.theory.specs.Copies.Instantiate.{Environment, environment_begins, Instantiated, instantiated}
use Rattle.theory.specs.Patterns.Fixed.{Each}
use Rattle.theory.specs.Classes.Premise.{env-joined}
use Rattle.emission.specs.Patterns.{has_head}
use Rattle.emit_theory.specs.Stores.{SortedStore}
use Rattle.emit_theory.specs.Built.Closed.{Pass, Closed, closed_begins, unify_closed}
use Rattle.emit_theory.specs.Built.Copying.{CopyAt, Copying}
use Rattle.emit_theory.specs.Built.Copies.{copy_copying, copy_sorted, copy_closed}
use Rattle.emit_theory.specs.Built.Heads.{unify_heads, judgment_instance}

-- what the numbers stand for, if each value is so
order_each : (Q : ℕ → Type 0) (bs : List Bound) → ((k x : ℕ) → value_of k bs ≡ some x → Q x) → (ks : List ℕ) → Each Q (in_order ks bs)
unfolding in_order
order_each Q bs h [] = tt
order_each Q bs h (k ∷ ks) = elim (see (value_of k bs)) [
  | is none e ↦ rw (e, in_order) (order_each Q bs h ks)
  | is (some x) e ↦ rw (e, in_order) (h k x e, order_each Q bs h ks)
]

-- what one premise makes of a graph: x is the instance, ys the copy's variables
pub record OnePremise (P : Pack) (vars env : List ℕ) (g : Graph) (x : ℕ) (ys : List ℕ) (h : Graph) : Type 0 where
  pub formed : Formed P h
  pub longer : length g ≤ length h
  pub sorts : (z : ℕ) → z < length g → sort_at P h z ≡ sort_at P g z
  pub environment : Environment P vars env h
  pub inside : x < length h
  pub sort : sort_at P h x ≡ prop
  pub variables : Each (λ y. y < length h) ys
  pub closed : (H : ℕ → Bool) → Closed H h → Closed H g × (H x ≡ true → Pass H ys)

module _ (P : Pack) (few : Few P) (vars env : List ℕ) (s : List Node) (S : SortedStore P s) (flex : List Bool) (p : ℕ) (within : p < length s) (judged : pattern_sort P s p ≡ prop)
    (t : Term) (T : Sorted P vars t prop) (g : Graph) (F : Formed P g) (E : Environment P vars env g) where
  abbrev fresh : Copy
  fresh = copy s flex g p

  abbrev inst : Grown
  inst = instantiate t env (copy s flex g p).graph

  abbrev other : ℕ
  other = copied (copy s flex g p).nodes p

  C : Copying P s g (copy s flex g p)
  C = copy_copying P s S flex g F p within

  K : CopyAt P s (copy s flex g p) p (copied (copy s flex g p).nodes p)
  K = copy_sorted P s S flex g F p within

  I : Instantiated P env t prop (copy s flex g p).graph (instantiate t env (copy s flex g p).graph)
  I = instantiated P (omega (arith, few.symbols)) vars env t prop fresh.graph C.formed (environment_begins P vars env g fresh.graph C.begins E) T

  -- the two have one sort
  alike : sort_at P inst.graph inst.at ≡ sort_at P inst.graph other
  alike = I.sort ∙ sym (sort_at_begins P fresh.graph inst.graph I.begins other K.inside ∙ K.sort ∙ judged)

  other_inside : other < length inst.graph
  other_inside = omega (arith, K.inside, I.begins.longer)

  -- where they unify
  pub one_premise : (ks : List ℕ) (h : Graph) → (unify inst.graph inst.at other).graph ≡ some h → OnePremise P vars env g inst.at (in_order ks fresh.variables) h
  one_premise ks h e =
      let U : Says P inst.graph inst.at other (some h) = rw e at (unify_says P inst.graph inst.at other I.formed I.inside other_inside alike) in
      let same = U.1 in
      let m = same.long in
      let b = begins_trans g fresh.graph inst.graph C.begins I.begins in
      record {
        formed = U.0;
        longer = omega (arith, b.longer);
        sorts = λ z l. same-sort P inst.graph h same z ∙ sort_at_begins P g inst.graph b z l;
        environment = env-joined P vars env inst.graph h same (environment_begins P vars env g inst.graph b E);
        inside = omega (arith, I.inside);
        sort = same-sort P inst.graph h same inst.at ∙ I.sort;
        variables = order_each (λ y. y < length h) fresh.variables (λ k x f.
            let r = C.variables k x f in
            omega (arith, (C.made r.0 x r.1).inside, I.begins.longer)) ks;
        closed = λ H D.
            let V' = unify_closed H P inst.graph inst.at other I.formed I.inside other_inside alike h e D in
            let W = closed_begins H fresh.graph inst.graph I.begins V'.0 in (
              closed_begins H g fresh.graph C.begins W,
              λ q. order_each (λ y. H y ≡ true) fresh.variables (copy_closed P s S flex g F H p within W (sym V'.1 ∙ q)) ks,
            );
      }

  -- the premise has the conclusion's head then
  pub premise_head : Below (length P.sorts) vars → is_variable (get_or s p no_node) ≡ false → (h : Graph) → (unify inst.graph inst.at other).graph ≡ some h → has_head (get_or s p no_node).head t ≡ true
  premise_head below app h e =
      let N = judgment_instance P few vars below t T env fresh.graph in
      let same = I.begins.kept other K.inside in
      let heads = unify_heads inst.graph inst.at other N.0 (ap (λ (v : Vertex). v.link) same ∙ K.alone) N.1 (ap is_var same ∙ K.applied app) h e in
      ap (λ (k : ℕ). has_head k t) (sym (heads ∙ ap (λ (v : Vertex). v.head) same ∙ K.head app)) ∙ N.2
