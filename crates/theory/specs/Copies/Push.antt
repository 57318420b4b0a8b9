-- One node more at the end of a graph: the graph stays well formed, and its solutions are the old ones with a tree for the new node.
use Rattle.std.specs.Prelude.{◌≡◌, refl, Bool, true, false, List, [], ◌∷◌, ℕ, suc, ◌<◌, eqb, ltb, length}
use Rattle.std.proofs.Common.{sym, ap, ◌∙◌, arith, eq-eqb, ne_eqb}
use Rattle.std.proofs.Math.Option.{none, some}
use Rattle.std.proofs.Math.ListN.{get_or-append}
use Rattle.std.proofs.lemmas.List.{get_or_at}
use Rattle.definition.specs.Test.{is, see, never, tests}
use Rattle.definition.specs.Pack.{Pack, symbol_of}
use Rattle.definition.specs.Tree.{Tree, tree}
use Rattle.definition.specs.Good.{Below}
use Rattle.definition.proofs.Laws.Grow.{below_more, length_more}
use Rattle.definition.specs.Graph.{Vertex, Graph, variable_vertex, applied, vertex, push, root, is_var}
use Rattle.theory.specs.Unification.Solve.{trees_at, Solves, sort_at, SortsAt, Formed-at, Formed, Begins}
use Rattle.theory.specs.Copies.Begin.{trees_at-same, sort_at-variable, sort_at-applied, SortsAt-begins, formed_begins}
use Rattle.theory.specs.Unification.Roots.{follow-none}

-- it is longer by one
pub push-length : (g : Graph) (v : Vertex) → length (push g v).graph ≡ suc (length g)
unfolding push
push-length g v = length_more g v

-- it begins with what it was
pub push_begins : (g : Graph) (v : Vertex) → Begins g (push g v).graph
unfolding push vertex
push_begins g v = record { longer = omega (arith, length_more g v); kept = λ x l. get_or-append g (v ∷ []) (applied 0 []) x l }

-- its last node is the new one
pub push-new : (g : Graph) (v : Vertex) → vertex (push g v).graph (length g) ≡ v
unfolding push vertex
push-new g v = get_or_at g v [] (applied 0 []) (length g) refl

-- what holds of the old nodes and of the new one holds of each
pub push_each : (Q : ℕ → Type 0) (g : Graph) (v : Vertex) → ((x : ℕ) → x < length g → Q x) → Q (length g)
    → (x : ℕ) → x < length (push g v).graph → Q x
push_each Q g v old new x l = elim (see (ltb x (length g))) [
  | is true p ↦ old x (omega tests)
  | is false p ↦ let e : x ≡ length g = omega (tests, push-length g v) in rw e new
]

-- a node that can stand behind a graph's nodes: joined to none, not rigid, well sorted over them
pub record NewNode (P : Pack) (g : Graph) (v : Vertex) : Type 0 where
  pub soft : v.rigid ≡ false
  pub alone : v.link ≡ none
  pub head : is_var v ≡ false → v.head < length P.symbols
  pub below : Below (length g) v.args
  pub sorts : is_var v ≡ false → SortsAt P g v.args (symbol_of P v.head).inputs
  pub bare : is_var v ≡ true → v.args ≡ []

-- a variable can always stand there
pub new-variable : (P : Pack) (g : Graph) (sort : ℕ) (flex : Bool) → NewNode P g (variable_vertex sort flex false)
unfolding is_var
new-variable P g sort flex = record {
  soft = refl;
  alone = refl;
  head = λ e. never (cc);
  below = tt;
  sorts = λ e. never (cc);
  bare = λ e. refl;
}

-- an application can, over nodes of its input sorts
pub new_applied : (P : Pack) (g : Graph) (h : ℕ) (args : List ℕ) → is_var (applied h args) ≡ false → h < length P.symbols
    → Below (length g) args → SortsAt P g args (symbol_of P h).inputs → NewNode P g (applied h args)
new_applied P g h args n l b s = record { soft = refl; alone = refl; head = λ e. l; below = b; sorts = λ e. s; bare = λ e. never (cc) }

-- the new node is well formed
push_formed_new : (P : Pack) (g : Graph) (v : Vertex) → NewNode P g v → Formed-at P (push g v).graph (length g)
unfolding root
push_formed_new P g v f =
    let h = (push g v).graph in
    let b = push_begins g v in
    let new : vertex h (length g) ≡ v = push-new g v in
    let end : (vertex h (length g)).link ≡ none = ap (λ (v : Vertex). v.link) new ∙ f.alone in
    let r : root h (length g) ≡ length g = follow-none (length h) h (length g) end in
    record {
      soft = ap (λ (v : Vertex). v.rigid) new ∙ f.soft;
      head = λ e. rw new (f.head (ap is_var (sym new) ∙ e));
      below = rw new (below_more (length g) (length h) v.args b.longer f.below);
      sorts = λ e. rw new (SortsAt-begins P g h b v.args (symbol_of P v.head).inputs f.below (f.sorts (ap is_var (sym new) ∙ e)));
      bare = λ e. ap (λ (v : Vertex). v.args) new ∙ f.bare (ap is_var (sym new) ∙ e);
      linked = λ y e. never (cc);
      rooted = rw r end;
      within = omega (arith, r, push-length g v);
    }

-- the graph stays well formed
pub push_formed : (P : Pack) (g : Graph) (v : Vertex) → Formed P g → NewNode P g v → Formed P (push g v).graph
push_formed P g v f n = push_each (Formed-at P (push g v).graph) g v (formed_begins P g (push g v).graph (push_begins g v) f) (push_formed_new P g v n)

-- a new variable's sort is its own
pub push-sort-variable : (P : Pack) (g : Graph) (v : Vertex) → is_var v ≡ true → sort_at P (push g v).graph (length g) ≡ v.sort
push-sort-variable P g v e = let new = push-new g v in sort_at-variable P (push g v).graph (length g) (ap is_var new ∙ e) ∙ ap (λ (v : Vertex). v.sort) new

-- a new application's is its head's output
pub push-sort-applied : (P : Pack) (g : Graph) (v : Vertex) → is_var v ≡ false → sort_at P (push g v).graph (length g) ≡ (symbol_of P v.head).output
push-sort-applied P g v e = let new = push-new g v in sort_at-applied P (push g v).graph (length g) (ap is_var new ∙ e) ∙ ap (λ (v : Vertex). (symbol_of P v.head).output) new

-- the same trees, and one for n
unfoldable pub extended : (ℕ → Tree) → ℕ → Tree → ℕ → Tree
extended θ n t x = elim (eqb x n) [ true ↦ t | false ↦ θ x ]

-- the new one's tree
pub extended-new : (θ : ℕ → Tree) (n : ℕ) (t : Tree) → extended θ n t n ≡ t
unfolding extended
extended-new θ n t = rw (eq-eqb n n refl, extended)

-- the others' are as they were
pub extended-old : (θ : ℕ → Tree) (n : ℕ) (t : Tree) (x : ℕ) → x < n → extended θ n t x ≡ θ x
unfolding extended
extended-old θ n t x l = rw (ne_eqb x n (λ e. omega arith), extended)

-- a solution goes on: any tree for a new variable, its head over its arguments' trees for a new application
pub push_solves : (P : Pack) (g : Graph) (v : Vertex) (θ : ℕ → Tree) (t : Tree) → Formed P g → NewNode P g v
    → (is_var v ≡ false → t ≡ tree v.head (trees_at θ v.args)) → Solves θ g → Solves (extended θ (length g) t) (push g v).graph
push_solves P g v θ t f n is-app s =
    let h = (push g v).graph in
    let η = extended θ (length g) t in
    let old : (x : ℕ) → x < length g → θ x ≡ η x = λ x l. sym (extended-old θ (length g) t x l) in
    let kept = (push_begins g v).kept in
    let new : vertex h (length g) ≡ v = push-new g v in
    record {
      links = λ x y. push_each (λ x. (vertex h x).link ≡ some y → η x ≡ η y) g v
          (λ x l e.
          let e' : (vertex g x).link ≡ some y = ap (λ (v : Vertex). v.link) (sym (kept x l)) ∙ e in
          sym (old x l) ∙ s.links x y l e' ∙ old y ((f x l).linked y e').0)
          (λ e. let a = n.alone in never (cc))
          x;
      apps = push_each (λ x. (vertex h x).link ≡ none → is_var (vertex h x) ≡ false → η x ≡ tree (vertex h x).head (trees_at η (vertex h x).args)) g v
          (λ x l e i.
          let same = kept x l in
          let q = s.apps x l (ap (λ (v : Vertex). v.link) (sym same) ∙ e) (ap is_var (sym same) ∙ i) in
          rw same (sym (old x l) ∙ q ∙ ap (tree (vertex g x).head) (trees_at-same θ η (length g) (vertex g x).args (f x l).below old)))
          (λ e i. rw new (extended-new θ (length g) t ∙ is-app (ap is_var (sym new) ∙ i) ∙ ap (tree v.head) (trees_at-same θ η (length g) v.args n.below old)));
    }

-- a solution of a longer graph that is the same on the shorter one's nodes
pub record Extends (θ : ℕ → Tree) (g h : Graph) : Type 0 where
  pub solution : ℕ → Tree
  pub agrees : (x : ℕ) → x < length g → solution x ≡ θ x
  pub solves : Solves solution h

-- with one node more there always is one
pub push_extends : (P : Pack) (g : Graph) (v : Vertex) (θ : ℕ → Tree) → Formed P g → NewNode P g v → Solves θ g → Extends θ g (push g v).graph
push_extends P g v θ f n s =
    let t = tree v.head (trees_at θ v.args) in
    record { solution = extended θ (length g) t; agrees = extended-old θ (length g) t; solves = push_solves P g v θ t f n (λ e. refl) s }

-- from a graph to a longer one, and on to a longer still
pub extends_trans : (θ : ℕ → Tree) (g h k : Graph) → Begins g h → (e : Extends θ g h) → Extends e.solution h k → Extends θ g k
extends_trans θ g h k b e d = record { solution = d.solution; agrees = λ x l. d.agrees x (omega (arith, b.longer)) ∙ e.agrees x l; solves = d.solves }
