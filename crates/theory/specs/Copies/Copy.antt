-- A fresh copy of a pattern: its node stands for the pattern's term over its own variables, which may be any trees.
use Rattle.std.specs.Prelude.{◌≡◌, refl, Bool, length}
use Rattle.std.proofs.Math.Path.{sym, ap}
use Rattle.std.proofs.Common.{ap₂, ◌∙◌, arith}
use Rattle.std.proofs.Math.Bool.{true, false}
use mathlib.Core.List.{List, [], ◌∷◌, map}
use Rattle.std.proofs.Math.Option.{some}
use Prim.Native.Nat.{ℕ, zero, suc, ◌<◌}
use Rattle.std.proofs.Math.ListN.{get_or}
use Rattle.definition.specs.Test.{is, see, never}
use Rattle.definition.specs.Pack.{Node, no_node, Pack}
use Rattle.definition.specs.Tree.{Tree, tree, tree_then, turn, turns}
use Rattle.definition.specs.Verdict.{Bound, value_of}
use Rattle.definition.specs.Store.{is_variable, term_of}
use Rattle.definition.specs.Graph.{Vertex, Graph, is_var}
use Rattle.definition.specs.Analysis.{parts, copied, Copy, copy}
use Rattle.theory.specs.Derive.{In}
use Rattle.theory.specs.Unification.Solve.{trees_at, Solves, Formed, Begins}
use Rattle.theory.specs.Copies.Begin.{begins_refl}
use Rattle.theory.specs.Copies.Terms.{Earlier, terms_at, below-applied, term_variable, term_applied}
use Rattle.theory.specs.Copies.Parts.{here, there, in_front, in_none, in_here, in_there, in_below, in_any, kids_in, kids_fall, Inherited, parts_self, parts_closed}
use Rattle.theory.specs.Copies.Copying.{copied_is, Made, number_at, CopyOf, Copying}
use Rattle.theory.specs.Copies.CopyNode.{PartsFormed, OneEach, copy_node_copying}
use Rattle.theory.specs.Walks.Walk.{Under, Known, walk}
use Rattle.theory.specs.Walks.WalkOnce.{once_induct}
use Rattle.theory.specs.Walks.Memo.{has_value, has-none}
use Rattle.theory.specs.Walks.CopyWalk.{no_copy, is_copied, copy_at, copy-made, copy-others, copy-known, copy_walk}

-- the trees of copies are what the terms of the patterns become, if each is
copies_turn : (s : List Node) (θ ν : ℕ → Tree) (bs : List Bound) (args : List ℕ) → ((a : ℕ) → In a args → θ (copied bs a) ≡ turn ν (term_of s a))
    → trees_at θ (map (copied bs) args) ≡ turns ν (terms_at s args)
unfolding trees_at turn terms_at
copies_turn s θ ν bs [] h = refl
copies_turn s θ ν bs (a ∷ args) h = ap₂ tree_then (h a (in_here a args)) (copies_turn s θ ν bs args (λ b k. h b (in_there b a args k)))

-- what the nodes that were copied stand for
pub made_all : (c : Copy) (xs : List ℕ) → Known is_copied c xs → (a : ℕ) → In a xs → Made c.nodes a
unfolding is_copied
made_all c [] k a i = absurd (in_none a i)
made_all c (x ∷ xs) k a i = elim (in_front a x xs i) [
  | here e ↦ rw e (has_value c.nodes x k.0)
  | there t ↦ made_all c xs k.1 a t
]

module _ (P : Pack) (s : List Node) (flex : List Bool) (ps : List ℕ) (g : Graph) (E : Earlier s) (F : PartsFormed P s ps) (one : OneEach s ps) where
  -- patterns are copied as the walk meets them, if with a node all below it is among them
  walk_copying : Inherited s (λ q. In q ps) → (d : ℕ) (xs : List ℕ) (c : Copy) → Under (λ n. n) d xs → ((q : ℕ) → In q xs → In q ps) → Copying P s flex ps g c
      → Copying P s flex ps g (walk (kids_in s) is_copied (copy_at s flex) d xs c)
  unfolding is_copied copy_at
  walk_copying I = once_induct (kids_in s) is_copied (copy_at s flex) (copy-made s flex) (copy-others s flex) (λ n. n) (kids_fall s E)
      (λ xs c d. ((q : ℕ) → In q xs → In q ps) → Copying P s flex ps g c → Copying P s flex ps g d)
      (λ c sub C. C)
      (λ x c k sub C. C)
      (λ x c d u k J sub C.
      let i = sub x (in_here x []) in
      copy_node_copying P s flex ps g F one d (J (λ q h. I x q i h) C) x (has-none d.nodes x u) i (made_all d (kids_in s x) k))
      (λ x xs c d e k l J K sub C. K (λ q h. sub q (in_there q x xs h)) (J (λ q h. sub q (elim (in_front q x [] h) [ here e ↦ rw e (in_here x xs) | there t ↦ absurd (in_none q t) ])) C))

  -- a solution that gives copies of variables their trees gives every copy what its pattern's term becomes
  copy-turns : (c : Copy) → Copying P s flex ps g c → (θ ν : ℕ → Tree) → Solves θ c.graph
      → ((q x : ℕ) → value_of q c.nodes ≡ some x → is_variable (get_or s q no_node) ≡ true → θ x ≡ ν (number_at s q))
      → (m q x : ℕ) → q < m → value_of q c.nodes ≡ some x → θ x ≡ turn ν (term_of s q)
  unfolding turn is_var is_variable
  copy-turns c C θ ν S values zero q x l o = absurd (omega arith)
  copy-turns c C θ ν S values (suc m) q x l o =
      let k = F.inside q (C.among q x o) in
      let M = C.made q x o in
      let node = get_or s q no_node in
      elim (see (is_variable node)) [
        | is true e ↦ values q x o e ∙ sym (ap (turn ν) (term_variable s E q k e))
        | is false e ↦
            let v = M.application e in
            let args-below = rw (below-applied node e) at (E q k) in
            let below-turn : (a : ℕ) → In a node.args → θ (copied c.nodes a) ≡ turn ν (term_of s a) =
            λ a i.
            let w = in_below q node.args args-below a i in
            copy-turns c C θ ν S values m a (copied c.nodes a) (omega arith) (M.over e a i) in
            S.apps x M.inside (ap (λ (v : Vertex). v.link) v) (ap is_var v ∙ e)
            ∙ ap (λ (v : Vertex). tree v.head (trees_at θ v.args)) v
            ∙ ap (tree node.head) (copies_turn s θ ν c.nodes node.args below-turn)
            ∙ sym (ap (turn ν) (term_applied s E q k e))
      ]

-- before the first copy
nothing_copied : (P : Pack) (s : List Node) (flex : List Bool) (ps : List ℕ) (g : Graph) → Formed P g → Copying P s flex ps g (no_copy g)
unfolding value_of
nothing_copied P s flex ps g f = record {
  begins = begins_refl g;
  formed = f;
  among = λ q x e. never (cc);
  made = λ q x e. never (cc);
  extends = λ θ ν S. record { solution = θ; agrees = λ x l. refl; solves = S; values = λ q x e f. never (cc) };
}

-- a solution for a pattern's copy that goes on from one of the graph before and gives its variables the trees wanted
pub record CopyValued (s : List Node) (p : ℕ) (θ ν : ℕ → Tree) (g : Graph) (c : Copy) : Type 0 where
  pub solution : ℕ → Tree
  pub agrees : (x : ℕ) → x < length g → solution x ≡ θ x
  pub solves : Solves solution c.graph
  pub values : (q : ℕ) → In q (parts s p) → is_variable (get_or s q no_node) ≡ true → solution (copied c.variables (number_at s q)) ≡ ν (number_at s q)
  pub is : (q : ℕ) → In q (parts s p) → solution (copied c.nodes q) ≡ turn ν (term_of s q)

-- what a copy of the pattern p is like; p itself is one of its parts
pub record Copied (P : Pack) (s : List Node) (flex : List Bool) (g : Graph) (p : ℕ) (c : Copy) : Type 0 where
  pub begins : Begins g c.graph
  pub formed : Formed P c.graph
  pub copies : (q : ℕ) → In q (parts s p) → CopyOf P s flex c q (copied c.nodes q)
  pub is : (θ : ℕ → Tree) → Solves θ c.graph → (q : ℕ) → In q (parts s p) → θ (copied c.nodes q) ≡ turn (λ k. θ (copied c.variables k)) (term_of s q)
  pub extends : (θ ν : ℕ → Tree) → Solves θ g → CopyValued s p θ ν g c

-- a fresh copy of a pattern whose parts are well sorted, no two of its variables having one number
pub copy_says : (P : Pack) (s : List Node) (flex : List Bool) (g : Graph) (p : ℕ) → Earlier s → PartsFormed P s (parts s p) → Formed P g → p < length s
    → OneEach s (parts s p) → Copied P s flex g p (copy s flex g p)
unfolding is_copied
copy_says P s flex g p E F f l one =
    let ps = parts s p in
    let c = copy s flex g p in
    let self : (q : ℕ) → In q (p ∷ []) → In q ps = λ q i. elim (in_front q p [] i) [ here e ↦ rw e (parts_self s p) | there t ↦ absurd (in_none q t) ] in
    let C : Copying P s flex ps g c = rw (copy_walk s flex g p) (walk_copying P s flex ps g E F one (parts_closed s E p) (suc p) (p ∷ []) (no_copy g) (omega arith, tt) self (nothing_copied P s flex ps g f)) in
    let makes : (q : ℕ) → In q ps → Made c.nodes q = λ q i. has_value c.nodes q (copy-known s flex g p q ∙ in_any q ps i) in
    let copies : (q : ℕ) → In q ps → CopyOf P s flex c q (copied c.nodes q) = λ q i. C.made q (copied c.nodes q) (makes q i) in
    record {
      begins = C.begins;
      formed = C.formed;
      copies = copies;
      is = λ θ S q i.
          copy-turns P s flex ps g E F one c C θ (λ k. θ (copied c.variables k)) S
          (λ r x o e. ap θ (sym (copied_is c.variables (number_at s r) x ((C.made r x o).value e))))
          (suc q) q (copied c.nodes q) (omega arith) (makes q i);
      extends = λ θ ν S.
          let W = C.extends θ ν S in
          record {
            solution = W.solution;
            agrees = W.agrees;
            solves = W.solves;
            values = λ q i e. ap W.solution (copied_is c.variables (number_at s q) (copied c.nodes q) ((copies q i).value e)) ∙ W.values q (copied c.nodes q) (makes q i) e;
            is = λ q i. copy-turns P s flex ps g E F one c C W.solution ν W.solves W.values (suc q) q (copied c.nodes q) (omega arith) (makes q i);
          };
    }
