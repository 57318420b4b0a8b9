-- A fresh copy of a pattern of a well-sorted store: the graph stays well formed, the copy has the pattern's sort, and what passes with it passes
-- with its variables.
use Rattle.std.specs.Prelude.{◌≡◌, Bool, true, false, List, [], ◌∷◌, ℕ, suc, ◌<◌, length, get_or}
use Rattle.std.proofs.Common.{sym, ap, ◌∙◌}
use Rattle.std.proofs.Math.Option.{some}
use native.Mathlib.Omega.{arith}
use Rattle.definition.specs.Test.{is, see, never}
use Rattle.definition.specs.Pack.{Node, no_node, Pack}
use Rattle.definition.specs.Good.{Below}
use Rattle.definition.specs.Verdict.{value_of}
use Rattle.definition.specs.Store.{is_variable}
use Rattle.definition.specs.Graph.{Graph, vertex}
use Rattle.definition.specs.Analysis.{parts, copied, copy}
use Rattle.theory.specs.Derive.{In}
use Rattle.theory.specs.Unification.Solve.{Formed}
use Rattle.theory.specs.Copies.Begin.{begins_refl}
use Rattle.theory.specs.Copies.Terms.{below-variable, below-applied}
use Rattle.theory.specs.Copies.Parts.{here, there, in_front, in_none, in_any, any_in, kids_in, kids_fall, kids_inside, parts_self, parts_inherit}
use Rattle.theory.specs.Copies.Copying.{copied_is, Made, made_is}
use Rattle.theory.specs.Walks.WalkOnce.{once_induct}
use Rattle.theory.specs.Walks.Memo.{has_value, has-none, value-has}
use Rattle.theory.specs.Walks.CopyWalk.{no_copy, is_copied, copy_at, copy-made, copy-others, copy-known, copy_walk}
use Rattle.theory.specs.Copies.Copy.{made_all}
use Rattle.emit_theory.specs.Stores.{SortedStore, sorted_earlier}
use Rattle.emit_theory.specs.Built.Closed.{Pass, Closed}
use Rattle.emit_theory.specs.Built.Copying.{CopyAt, Copying, copy_node_copying}

-- one of the nodes that pass passes
pub pass_in : (H : ℕ → Bool) (xs : List ℕ) → Pass H xs → (x : ℕ) → In x xs → H x ≡ true
pass_in H [] p x i = absurd (in_none x i)
pass_in H (y ∷ xs) p x i = elim (in_front x y xs i) [
  | here e ↦ ap H e ∙ p.0
  | there t ↦ pass_in H xs p.1 x t
]

module _ (P : Pack) (s : List Node) (S : SortedStore P s) (flex : List Bool) (g : Graph) (F : Formed P g) where
  -- before the first copy
  nothing_copied : Copying P s g (no_copy g)
  unfolding value_of
  nothing_copied = record { begins = begins_refl g; formed = F; made = λ q x e. never (cc); variables = λ k x e. never (cc) }

  -- all of a pattern copied
  pub copy_copying : (p : ℕ) → p < length s → Copying P s g (copy s flex g p)
  unfolding is_copied copy_at
  copy_copying p l =
      let E = sorted_earlier P s S in
      rw (copy_walk s flex g p)
      (once_induct (kids_in s) is_copied (copy_at s flex) (copy-made s flex) (copy-others s flex) (λ n. n) (kids_fall s E)
      (λ xs c d. Below (length s) xs → Copying P s g c → Copying P s g d)
      (λ c b C. C)
      (λ x c k b C. C)
      (λ x c d u k J b C. copy_node_copying P s g S flex d (J (kids_inside s E x b.0) C) x b.0 (has-none d.nodes x u) (made_all d (kids_in s x) k))
      (λ x xs c d e k m J K b C. K b.1 (J (b.0, tt) C))
      (suc p) (p ∷ []) (no_copy g) (omega arith, tt) (l, tt) nothing_copied)

  -- a pattern's parts are copied
  part-made : (p q : ℕ) → In q (parts s p) → Made (copy s flex g p).nodes q
  unfolding is_copied
  part-made p q i = has_value (copy s flex g p).nodes q (copy-known s flex g p q ∙ in_any q (parts s p) i)

  -- what was copied is a part
  made-part : (p q x : ℕ) → value_of q (copy s flex g p).nodes ≡ some x → In q (parts s p)
  unfolding is_copied
  made-part p q x e = any_in q (parts s p) (sym (copy-known s flex g p q) ∙ value-has (copy s flex g p).nodes q x e)

  -- the copy itself is a node of the pattern's sort
  pub copy_sorted : (p : ℕ) → p < length s → CopyAt P s (copy s flex g p) p (copied (copy s flex g p).nodes p)
  copy_sorted p l = (copy_copying p l).made p (copied (copy s flex g p).nodes p) (part-made p p (parts_self s p))

  -- where the copy passes, its variables do
  pub copy_closed : (H : ℕ → Bool) (p : ℕ) → p < length s → Closed H (copy s flex g p).graph → H (copied (copy s flex g p).nodes p) ≡ true
      → (k x : ℕ) → value_of k (copy s flex g p).variables ≡ some x → H x ≡ true
  copy_closed H p l C h k x e =
      let c = copy s flex g p in
      let K = copy_copying p l in
      let r = K.variables k x e in
      let Q : ℕ → Type 0 = λ q. Made c.nodes q × (H (copied c.nodes q) ≡ true) in
      let down : (q a : ℕ) → Q q → In a (kids_in s q) → Q a = λ q a w i. elim (see (is_variable (get_or s q no_node))) [
        | is true v ↦ let j : In a [] = rw (below-variable (get_or s q no_node) v) at i in absurd (in_none a j)
        | is false v ↦
            let z = copied c.nodes q in
            let M = K.made q z w.0 in
            let j : In a (get_or s q no_node).args = rw (below-applied (get_or s q no_node) v) at i in
            let o = M.over v a j in
            let t = pass_in H (vertex c.graph z).args (C.apps z M.inside M.alone (M.applied v) w.1) o.0 o.2 in
            (made_is c.nodes a o.0 o.1, ap H (copied_is c.nodes a o.0 o.1) ∙ t)
      ] in
      let all = parts_inherit s Q down p (part-made p p (parts_self s p), h) r.0 (made-part p r.0 x r.1) in
      ap H (sym (copied_is c.nodes r.0 x r.1)) ∙ all.1
