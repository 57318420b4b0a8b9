-- `copy` by the memoised walk: what code does with a stack gives the same copy.
use Rattle.std.specs.Prelude.{◌≡◌, refl, Bool, true, false, ◌||◌, List, [], ◌∷◌, ℕ, suc, eqb, length}
use Rattle.std.proofs.Common.{ap, ◌∙◌, eqb-true}
use Rattle.definition.specs.Test.{is, see, tests, any}
use Rattle.definition.specs.Pack.{Node}
use Rattle.definition.specs.Verdict.{Bound, value_of}
use Rattle.definition.specs.Graph.{Graph}
use Rattle.definition.specs.Analysis.{parts, Copy, copy_node, copy_all, copy}
use Rattle.definition.specs.Classes.{is_some}
use Rattle.theory.specs.Walks.Walk.{walk, walk_image}
use Rattle.theory.specs.Walks.Memo.{has, has_new, has-others}
use Rattle.theory.specs.Copies.Parts.{kids_in, is_seen, add_seen, parts-walk}
use Rattle.theory.specs.Copies.CopyNode.{copy_node-nodes}

-- a graph before the first copy
abbrev pub no_copy : Graph → Copy
no_copy g = record { graph = g; nodes = []; variables = [] }

-- whether a node was copied
unfoldable pub is_copied : Copy → ℕ → Bool
unfolding has
is_copied c p = has c.nodes p

-- a node is copied whose arguments were
unfoldable pub copy_at : List Node → List Bool → ℕ → Copy → Copy
unfolding copy_node
copy_at s flex p c = copy_node s flex c p

-- it was copied then
pub copy-made : (s : List Node) (flex : List Bool) (p : ℕ) (c : Copy) → is_copied (copy_at s flex p c) p ≡ true
unfolding is_copied copy_at
copy-made s flex p c = ap (λ (m : List Bound). has m p) (copy_node-nodes s flex c p) ∙ has_new c.nodes p (length c.graph)

-- and no other was
pub copy-others : (s : List Node) (flex : List Bool) (p q : ℕ) (c : Copy) → (p ≡ q → ⊥) → is_copied (copy_at s flex p c) q ≡ is_copied c q
unfolding is_copied copy_at
copy-others s flex p q c n = ap (λ (m : List Bound). has m q) (copy_node-nodes s flex c p) ∙ has-others c.nodes p (length c.graph) q n

-- one more at the end
copy_all_snoc : (s : List Node) (flex : List Bool) (c : Copy) (ps : List ℕ) (p : ℕ) → copy_all s flex c (add_seen p ps) ≡ copy_at s flex p (copy_all s flex c ps)
unfolding copy_all copy_at
copy_all_snoc s flex c [] p = refl
copy_all_snoc s flex c (q ∷ ps) p = copy_all_snoc s flex (copy_node s flex c q) ps p

-- copied are those that were and those of the list
copy_all-known : (s : List Node) (flex : List Bool) (c : Copy) (ps : List ℕ) (q : ℕ) → is_copied (copy_all s flex c ps) q ≡ is_seen ps q || is_copied c q
unfolding copy_all any copy_at
copy_all-known s flex c [] q = refl
copy_all-known s flex c (p ∷ ps) q =
    let ih = copy_all-known s flex (copy_node s flex c p) ps q in
    elim (see (eqb q p)) [
      | is true e ↦
          let f : is_copied (copy_node s flex c p) q ≡ true = rw (eqb-true q p e) (copy-made s flex p c) in
          rw e (elim (see (is_seen ps q)) [ is true k ↦ rw k at ih | is false k ↦ rw k at ih ∙ f ])
      | is false e ↦ rw e (ih ∙ ap (λ b. is_seen ps q || b) (copy-others s flex p q c (λ i. absurd (omega tests))))
    ]

-- from nothing on, copied are those of the list
copied_seen : (s : List Node) (flex : List Bool) (g : Graph) (ps : List ℕ) (q : ℕ) → is_copied (copy_all s flex (no_copy g) ps) q ≡ is_seen ps q
unfolding is_copied has value_of is_some
copied_seen s flex g ps q = copy_all-known s flex (no_copy g) ps q ∙ or_false (is_seen ps q)
  where
    or_false : (b : Bool) → b || false ≡ b
    or_false true = refl
    or_false false = refl

-- a pattern's parts are copied, and no other node
pub copy-known : (s : List Node) (flex : List Bool) (g : Graph) (p q : ℕ) → is_copied (copy s flex g p) q ≡ is_seen (parts s p) q
unfolding copy
copy-known s flex g p q = copied_seen s flex g (parts s p) q

-- a copy is the walk of its pattern
pub copy_walk : (s : List Node) (flex : List Bool) (g : Graph) (p : ℕ) → copy s flex g p ≡ walk (kids_in s) is_copied (copy_at s flex) (suc p) (p ∷ []) (no_copy g)
unfolding copy parts
copy_walk s flex g p =
    ap (copy_all s flex (no_copy g)) (parts-walk s (suc p) (p ∷ []) [])
    ∙ walk_image (kids_in s) is_seen add_seen is_copied (copy_at s flex) (copy_all s flex (no_copy g))
    (copied_seen s flex g) (λ q seen. copy_all_snoc s flex (no_copy g) seen q) (suc p) (p ∷ []) []
