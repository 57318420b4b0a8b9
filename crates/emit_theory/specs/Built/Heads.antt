-- Heads: two applications that unify have one head, a judgment's instance has its term's; and the heads of classes' conclusions beside premises.
use Rattle.std.specs.Prelude.{◌≡◌, refl, true, false, ◌||◌, List, [], ◌∷◌, ℕ, ◌<◌, ◌≤◌, eqb, length, get_or}
use Rattle.std.proofs.Common.{sym, ap, ◌∙◌, arith, eqb-true, eq-eqb, ne_eqb}
use Rattle.std.proofs.Math.Option.{none, some}
use Rattle.std.proofs.lemmas.Bool.{eqb-false}
use Rattle.std.proofs.lemmas.List.{get_or_at}
use Rattle.definition.specs.Test.{is, see, never, ◌and◌}
use Rattle.definition.specs.Pack.{prop, Term, Terms, var, app, nil, cons, no_node, Pack, rule_of}
use Rattle.definition.specs.Good.{Below, Sorted, Few}
use Rattle.definition.proofs.Laws.Grow.{below_at}
use Rattle.definition.specs.Store.{variable_head}
use Rattle.definition.specs.Graph.{Vertex, Graph, applied, vertex, push, is_var, is_free, root, Pair, clashed, meet, Unified, unify, cells}
use Rattle.definition.specs.Analysis.{instantiate, instantiate_all}
use Rattle.definition.specs.Keys.{Key, cut_key, rule_key, no_keyed, keyed}
use Rattle.definition.specs.Classes.{no_class, Built}
use Rattle.emission.specs.Patterns.{has_head}
use Rattle.theory.specs.Unification.Turn.{meet-unlike}
use Rattle.theory.specs.Unification.Unify.{take_clashed}
use Rattle.theory.specs.Unification.Forest.{root_self}

-- an application is no variable that may be bound
applied-bound : (v : Vertex) → is_var v ≡ false → is_free v ≡ false
unfolding is_free ◌and◌
applied-bound v e = rw (e, ◌and◌)

-- two applications that are joined to none and unify have one head
pub unify_heads : (g : Graph) (x y : ℕ) → (vertex g x).link ≡ none → (vertex g y).link ≡ none → is_var (vertex g x) ≡ false → is_var (vertex g y) ≡ false
    → (h : Graph) → (unify g x y).graph ≡ some h → (vertex g x).head ≡ (vertex g y).head
unfolding unify
unify_heads g x y lx ly vx vy h e = elim (see (eqb x y)) [
  | is true p ↦ ap (λ (z : ℕ). (vertex g z).head) (eqb-true x y p)
  | is false p ↦ elim (see (eqb (vertex g x).head (vertex g y).head)) [
    | is true q ↦ eqb-true (vertex g x).head (vertex g y).head q
    | is false q ↦
        let pair : Pair = record { left = x; right = y } in
        let apps : is_var (vertex g x) || is_var (vertex g y) ≡ false = rw (vx, vy) refl in
        let unlike = meet-unlike g x y [] (eqb-false x y p) (applied-bound (vertex g x) vx) (applied-bound (vertex g y) vy) apps (eqb-false (vertex g x).head (vertex g y).head q) in
        let m : meet g (root g x) (root g y) [] ≡ clashed = rw (root_self g x lx, root_self g y ly) unlike in
        never (let z : none ≡ some h = sym (ap (λ (u : Unified). u.graph) (take_clashed (cells g) g pair [] 0 m)) ∙ e in cc)
  ]
]

-- a judgment's instance is an application that is joined to none, and has the judgment's head
pub judgment_instance : (P : Pack) → Few P → (vars : List ℕ) → Below (length P.sorts) vars → (t : Term) → Sorted P vars t prop → (env : List ℕ) (g : Graph)
    → let top = instantiate t env g in ((vertex top.graph top.at).link ≡ none) × (is_var (vertex top.graph top.at) ≡ false) × (has_head (vertex top.graph top.at).head t ≡ true)
unfolding instantiate push vertex is_var has_head
judgment_instance P few vars b (var k) R env g = absurd (let l = below_at (length P.sorts) vars k b R.0 in let f = few.sorts in let q = R.1 in omega arith)
judgment_instance P few vars b (app h ts) R env g =
    let below = instantiate_all ts env g in
    let v = get_or_at below.graph (applied h below.ats) [] (applied 0 []) (length below.graph) refl in
    let l = few.symbols in
    let m = R.0 in
    (ap (λ (x : Vertex). x.link) v, ap is_var v ∙ ne_eqb h variable_head (λ e. omega arith), eq-eqb h _ (sym (ap (λ (x : Vertex). x.head) v)))

-- the head of a class's conclusion
abbrev pub head_of : Built → ℕ → ℕ
head_of b c = (get_or b.store (get_or b.classes c no_class).conclusion no_node).head

-- premises beside classes that are made, as far as both go: each has the head of its class's conclusion
abbrev pub SameHeads : Built → Terms → List ℕ → Type 0
SameHeads b nil cs = Unit {0}
SameHeads b (cons t ts) [] = Unit {0}
SameHeads b (cons t ts) (c ∷ cs) = (c < length b.classes) × (has_head (head_of b c) t ≡ true) × SameHeads b ts cs

-- a class's heads, by its key: a cut class has its predicate's, and the premises of another's rule have those of the classes beside them
abbrev pub KeyHeads : Pack → Built → ℕ → Key → Type 0
KeyHeads P b c (cut_key p) = head_of b c ≡ p
KeyHeads P b c (rule_key r cs) = SameHeads b (rule_of P r).premises cs

-- each class made so far has its key's heads
abbrev pub ClassHeads : Pack → Built → Type 0
ClassHeads P b = (c : ℕ) → c < length b.classes → KeyHeads P b c (get_or (keyed P).classes c no_keyed).key

-- with more classes, the heads of the old ones being what they were
module _ (b d : Built) (longer : length b.classes ≤ length d.classes) (stay : (c : ℕ) → c < length b.classes → head_of d c ≡ head_of b c) where
  -- premises have the same heads still
  pub same_heads_stay : (ts : Terms) (cs : List ℕ) → SameHeads b ts cs → SameHeads d ts cs
  same_heads_stay nil cs h = tt
  same_heads_stay (cons t ts) [] h = tt
  same_heads_stay (cons t ts) (c ∷ cs) h = (omega (arith, h.0), ap (λ (k : ℕ). has_head k t) (stay c h.0) ∙ h.1, same_heads_stay ts cs h.2)

  -- and each old class its key's
  pub key_heads_stay : (P : Pack) (c : ℕ) → c < length b.classes → (k : Key) → KeyHeads P b c k → KeyHeads P d c k
  key_heads_stay P c l (cut_key p) h = stay c l ∙ h
  key_heads_stay P c l (rule_key r cs) h = same_heads_stay (rule_of P r).premises cs h
