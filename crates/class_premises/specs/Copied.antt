-- How much a copy adds to a graph, and its variables in their order.
use Rattle.std.specs.Prelude.{◌≡◌, refl, Bool, true, false, List, [], ◌∷◌, ◌++◌, ℕ, zero, suc, ◌+◌, ◌≤◌, ◌<◌, length, get_or}
use Rattle.std.proofs.Common.{sym, ap, ap₂, ◌∙◌, arith, length-append}
use Rattle.std.proofs.Math.Option.{none, some}
use Rattle.std.proofs.Math.Decide.{ℕ_discrete}
use Rattle.definition.specs.Test.{is, see, never}
use Rattle.definition.specs.Pack.{Node, no_node}
use Rattle.definition.specs.Store.{is_variable}
use Rattle.definition.specs.Good.{Below}
use Rattle.definition.specs.Verdict.{Bound, value_of}
use Rattle.definition.specs.Graph.{Graph, push, up_to}
use Rattle.definition.specs.Analysis.{copied, Copy, pairing, copy_node, copy_all, parts, copy}
use Rattle.definition.specs.Classes.{in_order}
use Rattle.base.specs.Word.{word_of}
use Rattle.base.specs.Part.{part, part-more}
use Rattle.theory.specs.Copies.Parts.{parts_self, in_any}
use Rattle.theory.specs.Copies.Copying.{value_of_old, looked, newest, older}
use Rattle.theory.specs.Copies.CopyNode.{copy_node-nodes}
use Rattle.theory.specs.Walks.Memo.{has_value}
use Rattle.theory.specs.Walks.CopyWalk.{no_copy, is_copied, copy-known}
use Rattle.class_premises.specs.Noted.{said, said-append}

-- ---- what a node's copy adds
node_graph : (s : List Node) (flex : List Bool) (c : Copy) (p : ℕ) → length (copy_node s flex c p).graph ≡ suc (length c.graph)
unfolding copy_node push
node_graph s flex c p = elim (see (is_variable (get_or s p no_node))) [
  | is true e ↦ rw (e, copy_node) (length-append c.graph _ ∙ omega arith)
  | is false e ↦ rw (e, copy_node) (length-append c.graph _ ∙ omega arith)
]

node_variables : (s : List Node) (flex : List Bool) (c : Copy) (p : ℕ) → length (copy_node s flex c p).variables ≤ suc (length c.variables)
unfolding copy_node push
node_variables s flex c p = elim (see (is_variable (get_or s p no_node))) [
  | is true e ↦ rw (e, copy_node) (omega arith)
  | is false e ↦ rw (e, copy_node) (omega arith)
]

-- copies are nodes
abbrev Inside : Copy → Type 0
Inside c = (q x : ℕ) → value_of q c.nodes ≡ some x → x < length c.graph

node_inside : (s : List Node) (flex : List Bool) (c : Copy) (p : ℕ) → Inside c → Inside (copy_node s flex c p)
node_inside s flex c p I q x e =
    let n = node_graph s flex c p in
    let v : value_of q (pairing p (length c.graph) ∷ c.nodes) ≡ some x = ap (value_of q) (sym (copy_node-nodes s flex c p)) ∙ e in
    elim (looked p (length c.graph) c.nodes q x v) [ newest a b ↦ omega arith | older a ↦ omega (arith, I q x a) ]

-- so are those of variables
abbrev VariablesInside : Copy → Type 0
VariablesInside c = (q x : ℕ) → value_of q c.variables ≡ some x → x < length c.graph

node_variables_inside : (s : List Node) (flex : List Bool) (c : Copy) (p : ℕ) → VariablesInside c → VariablesInside (copy_node s flex c p)
unfolding copy_node push
node_variables_inside s flex c p I q x e =
    let n = node_graph s flex c p in
    let k : ℕ = get_or (get_or s p no_node).args 0 0 in
    elim (see (is_variable (get_or s p no_node))) [
      | is true t ↦
          let v : value_of q (pairing k (length c.graph) ∷ c.variables) ≡ some x = rw (t, copy_node) at e in
          elim (looked k (length c.graph) c.variables q x v) [ newest a b ↦ omega arith | older a ↦ omega (arith, I q x a) ]
      | is false t ↦ let v : value_of q c.variables ≡ some x = rw (t, copy_node) at e in omega (arith, I q x v)
    ]

-- ---- all of them
pub record Adds (c d : Copy) : Type 0 where
  pub longer : length c.graph ≤ length d.graph
  pub variables : length d.variables + length c.graph ≤ length c.variables + length d.graph
  pub inside : Inside c → Inside d
  pub variables_inside : VariablesInside c → VariablesInside d

all-adds : (s : List Node) (flex : List Bool) (c : Copy) (ps : List ℕ) → Adds c (copy_all s flex c ps)
unfolding copy_all
all-adds s flex c [] = record { longer = omega arith; variables = omega arith; inside = λ I. I; variables_inside = λ I. I }
all-adds s flex c (p ∷ ps) =
    let A = all-adds s flex (copy_node s flex c p) ps in
    let n = node_graph s flex c p in
    let v = node_variables s flex c p in
    record { longer = omega (arith, A.longer); variables = omega (arith, A.variables); inside = λ I. A.inside (node_inside s flex c p I); variables_inside = λ I. A.variables_inside (node_variables_inside s flex c p I) }

copy-adds : (s : List Node) (flex : List Bool) (h : Graph) (p : ℕ) → Adds (no_copy h) (copy s flex h p)
unfolding copy
copy-adds s flex h p = all-adds s flex (no_copy h) (parts s p)

pub copy-longer : (s : List Node) (flex : List Bool) (h : Graph) (p : ℕ) → length h ≤ length (copy s flex h p).graph
copy-longer s flex h p = (copy-adds s flex h p).longer

pub copy_variables : (s : List Node) (flex : List Bool) (h : Graph) (p : ℕ) → length (copy s flex h p).variables + length h ≤ length (copy s flex h p).graph
copy_variables s flex h p = omega (arith, (copy-adds s flex h p).variables)

-- the pattern's own copy is a node
pub copied_inside : (s : List Node) (flex : List Bool) (h : Graph) (p : ℕ) → copied (copy s flex h p).nodes p < length (copy s flex h p).graph
unfolding is_copied
copied_inside s flex h p =
    let k : is_copied (copy s flex h p) p ≡ true = copy-known s flex h p p ∙ in_any p (parts s p) (parts_self s p) in
    (copy-adds s flex h p).inside (λ q x e. never (cc)) p (copied (copy s flex h p).nodes p) (has_value (copy s flex h p).nodes p k)

-- ---- a copy's variables in their order
-- values that are all below
in_order_below : (n : ℕ) (ks : List ℕ) (bs : List Bound) → ((k x : ℕ) → value_of k bs ≡ some x → x < n) → Below n (in_order ks bs)
unfolding in_order
in_order_below n [] bs h = tt
in_order_below n (k ∷ ks) bs h = elim (see (value_of k bs)) [
  | is none e ↦ rw (e, in_order) (in_order_below n ks bs h)
  | is (some x) e ↦ rw (e, in_order) (h k x e, in_order_below n ks bs h)
]

pub copy_order_below : (s : List Node) (flex : List Bool) (h : Graph) (p : ℕ) (ks : List ℕ) → Below (length (copy s flex h p).graph) (in_order ks (copy s flex h p).variables)
unfolding value_of
copy_order_below s flex h p ks = in_order_below (length (copy s flex h p).graph) ks (copy s flex h p).variables ((copy-adds s flex h p).variables_inside (λ q x e. never (cc)))

in_order_append : (ks ls : List ℕ) (bs : List Bound) → in_order (ks ++ ls) bs ≡ in_order ks bs ++ in_order ls bs
unfolding in_order
in_order_append [] ls bs = refl
in_order_append (k ∷ ks) ls bs = elim (see (value_of k bs)) [
  | is none e ↦ rw (e, in_order) (in_order_append ks ls bs)
  | is (some x) e ↦ rw (e, in_order) (ap (λ (l : List ℕ). x ∷ l) (in_order_append ks ls bs))
]

-- one number more
abbrev one : ℕ → List Bound → List ℕ
one k bs = in_order (k ∷ []) bs

in_order_more : (n : ℕ) (bs : List Bound) → in_order (up_to (suc n)) bs ≡ in_order (up_to n) bs ++ one n bs
unfolding up_to
in_order_more n bs = in_order_append (up_to n) (n ∷ []) bs

one-most : (k : ℕ) (bs : List Bound) → length (one k bs) ≤ 1
unfolding in_order
one-most k bs = elim (see (value_of k bs)) [ is none e ↦ rw (e, in_order) (omega arith) | is (some x) e ↦ rw (e, in_order) (omega arith) ]

one-other : (k : ℕ) (b : Bound) (bs : List Bound) → (k ≡ b.variable → ⊥) → one k (b ∷ bs) ≡ one k bs
unfolding in_order
one-other k b bs d = let e : value_of k (b ∷ bs) ≡ value_of k bs = value_of_old b.variable b.value bs k d in rw (e, in_order)

-- a pair of a later number says nothing of these
in_order_later : (n : ℕ) (b : Bound) (bs : List Bound) → n ≤ b.variable → length (in_order (up_to n) (b ∷ bs)) ≡ length (in_order (up_to n) bs)
unfolding in_order up_to
in_order_later zero b bs h = refl
in_order_later (suc n) b bs h =
    let i = in_order_later n b bs (omega arith) in
    let o = ap length (one-other n b bs (λ e. omega (arith, e))) in
    omega (arith, ap length (in_order_more n (b ∷ bs)), ap length (in_order_more n bs), length-append (in_order (up_to n) (b ∷ bs)) (one n (b ∷ bs)), length-append (in_order (up_to n) bs) (one n bs))

in_order_one : (n : ℕ) (b : Bound) (bs : List Bound) → length (in_order (up_to n) (b ∷ bs)) ≤ suc (length (in_order (up_to n) bs))
unfolding in_order up_to
in_order_one zero b bs = omega arith
in_order_one (suc n) b bs =
    let p = ap length (in_order_more n (b ∷ bs)) ∙ length-append (in_order (up_to n) (b ∷ bs)) (one n (b ∷ bs)) in
    let q = ap length (in_order_more n bs) ∙ length-append (in_order (up_to n) bs) (one n bs) in
    elim (ℕ_discrete n b.variable) [
      | yes e ↦ omega (arith, in_order_later n b bs (omega (arith, e)), one-most n (b ∷ bs))
      | no d ↦ omega (arith, in_order_one n b bs, ap length (one-other n b bs d))
    ]

in_order_none : (n : ℕ) → length (in_order (up_to n) []) ≡ 0
unfolding in_order up_to value_of
in_order_none zero = refl
in_order_none (suc n) = let p = ap length (in_order_more n []) ∙ length-append (in_order (up_to n) []) (one n []) in omega (arith, in_order_none n)

-- no more than there are pairs
pub in_order_few : (n : ℕ) (bs : List Bound) → length (in_order (up_to n) bs) ≤ length bs
in_order_few n [] = omega (arith, in_order_none n)
in_order_few n (b ∷ bs) = omega (arith, in_order_few n bs, in_order_one n b bs)

-- words that say the values say them in their order
pub in_order_said : (work : List ℕ) (from : ℕ) (bs : List Bound) (n : ℕ) → from + n ≤ length work → ((k : ℕ) → k < n → get_or work (from + k) 0 ≡ word_of (value_of k bs)) → said (part from n work) ≡ in_order (up_to n) bs
unfolding said in_order up_to part
in_order_said work from bs zero h w = refl
in_order_said work from bs (suc n) h w =
    let e : suc n ≡ n + 1 = omega arith in
    ap (λ (m : ℕ). said (part from m work)) e ∙ ap said (part-more from n work (omega arith)) ∙ said-append (part from n work) (get_or work (from + n) 0 ∷ [])
    ∙ ap₂ ◌++◌ (in_order_said work from bs n (omega arith) (λ k l. w k (omega arith))) (ap (λ (x : ℕ). said (x ∷ [])) (w n (omega arith)) ∙ said-one n bs)
    ∙ sym (in_order_more n bs)
  where
    said-one : (k : ℕ) (cs : List Bound) → said (word_of (value_of k cs) ∷ []) ≡ one k cs
    said-one k cs = elim (see (value_of k cs)) [ is none e ↦ rw (e, in_order) | is (some x) e ↦ rw (e, in_order) ]
