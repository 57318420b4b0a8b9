-- A graph that begins with another: what holds of the shorter one still holds in the longer.
use Rattle.std.specs.Prelude.{◌≡◌, refl, true, false, List, [], ◌∷◌, ℕ, zero, suc, ◌<◌, length}
use Rattle.std.proofs.Common.{sym, ap, ap₂, ◌∙◌, arith}
use Rattle.std.proofs.Math.Option.{none, some}
use Rattle.definition.specs.Test.{is, see}
use Rattle.definition.specs.Pack.{Pack, symbol_of}
use Rattle.definition.specs.Tree.{Tree, tree, tree_then}
use Rattle.definition.specs.Good.{Below}
use Rattle.definition.proofs.Laws.Grow.{below_more}
use Rattle.definition.specs.Graph.{Vertex, Graph, vertex, follow, root, is_var}
use Rattle.theory.specs.Unification.Solve.{trees_at, Solves, sort_at, SortsAt, Formed-at, Formed, Begins}
use Rattle.theory.specs.Unification.Roots.{follow-none, follow_some, follow-more}

-- a graph begins with itself
pub begins_refl : (g : Graph) → Begins g g
begins_refl g = record { longer = omega arith; kept = λ x l. refl }

-- what begins with a longer graph begins with the shorter
pub begins_trans : (g h k : Graph) → Begins g h → Begins h k → Begins g k
begins_trans g h k a b = record { longer = omega (arith, a.longer, b.longer); kept = λ x l. b.kept x (omega (arith, a.longer)) ∙ a.kept x l }

-- trees that are the same for these nodes
pub trees_at-same : (θ η : ℕ → Tree) (n : ℕ) (xs : List ℕ) → Below n xs → ((x : ℕ) → x < n → θ x ≡ η x) → trees_at θ xs ≡ trees_at η xs
unfolding trees_at
trees_at-same θ η n [] b e = refl
trees_at-same θ η n (x ∷ xs) b e = ap₂ tree_then (e x b.0) (trees_at-same θ η n xs b.1 e)

-- a solution of the longer graph solves the shorter one
pub solves_begins : (θ : ℕ → Tree) (g h : Graph) → Begins g h → Solves θ h → Solves θ g
solves_begins θ g h b s = record {
  links = λ x y l e. s.links x y (omega (arith, b.longer)) (ap (λ (v : Vertex). v.link) (b.kept x l) ∙ e);
  apps = λ x l e n.
      s.apps x (omega (arith, b.longer)) (ap (λ (v : Vertex). v.link) (b.kept x l) ∙ e) (ap is_var (b.kept x l) ∙ n)
      ∙ ap (λ (v : Vertex). tree v.head (trees_at θ v.args)) (b.kept x l);
}

-- a variable's sort is its own
pub sort_at-variable : (P : Pack) (g : Graph) (x : ℕ) → is_var (vertex g x) ≡ true → sort_at P g x ≡ (vertex g x).sort
unfolding sort_at
sort_at-variable P g x e = rw (e, sort_at)

-- an application's is its head's output
pub sort_at-applied : (P : Pack) (g : Graph) (x : ℕ) → is_var (vertex g x) ≡ false → sort_at P g x ≡ (symbol_of P (vertex g x).head).output
unfolding sort_at
sort_at-applied P g x e = rw (e, sort_at)

-- a node's sort is what it was
pub sort_at_begins : (P : Pack) (g h : Graph) → Begins g h → (x : ℕ) → x < length g → sort_at P h x ≡ sort_at P g x
sort_at_begins P g h b x l =
    let same = b.kept x l in
    elim (see (is_var (vertex g x))) [
      | is true e ↦ sort_at-variable P h x (ap is_var same ∙ e) ∙ ap (λ (v : Vertex). v.sort) same ∙ sym (sort_at-variable P g x e)
      | is false e ↦ sort_at-applied P h x (ap is_var same ∙ e) ∙ ap (λ (v : Vertex). (symbol_of P v.head).output) same ∙ sym (sort_at-applied P g x e)
    ]

-- nodes' sorts are what they were
pub SortsAt-begins : (P : Pack) (g h : Graph) → Begins g h → (xs ss : List ℕ) → Below (length g) xs → SortsAt P g xs ss → SortsAt P h xs ss
SortsAt-begins P g h b [] [] l e = tt
SortsAt-begins P g h b [] (s ∷ ss) l e = absurd e
SortsAt-begins P g h b (x ∷ xs) [] l e = absurd e
SortsAt-begins P g h b (x ∷ xs) (s ∷ ss) l e = (sort_at_begins P g h b x l.0 ∙ e.0, SortsAt-begins P g h b xs ss l.1 e.1)

-- chains of the shorter graph stay in it
follow_begins : (g h : Graph) → Begins g h → ((x y : ℕ) → x < length g → (vertex g x).link ≡ some y → y < length g)
    → (k x : ℕ) → x < length g → follow k h x ≡ follow k g x
unfolding follow
follow_begins g h b stay zero x l = refl
follow_begins g h b stay (suc k) x l =
    let same : (vertex h x).link ≡ (vertex g x).link = ap (λ (v : Vertex). v.link) (b.kept x l) in
    elim (see (vertex g x).link) [
      | is none p ↦ follow-none (suc k) h x (same ∙ p) ∙ sym (follow-none (suc k) g x p)
      | is (some y) p ↦ follow_some k h x y (same ∙ p) ∙ follow_begins g h b stay k y (stay x y l p) ∙ sym (follow_some k g x y p)
    ]

-- a node's root is what it was
pub root_begins : (P : Pack) (g h : Graph) → Begins g h → Formed P g → (x : ℕ) → x < length g → root h x ≡ root g x
unfolding root
root_begins P g h b f x l =
    let same = follow_begins g h b (λ x y m e. ((f x m).linked y e).0) (length g) x l in
    let end : (vertex h (follow (length g) h x)).link ≡ none = rw same (ap (λ (v : Vertex). v.link) (b.kept (root g x) (f x l).within) ∙ (f x l).rooted) in
    follow-more (length g) (length h) h x end b.longer ∙ same

-- a node of the shorter graph is well formed in the longer
pub formed_begins : (P : Pack) (g h : Graph) → Begins g h → Formed P g → (x : ℕ) → x < length g → Formed-at P h x
formed_begins P g h b f x l =
    let n = f x l in
    let same = b.kept x l in
    let r = root_begins P g h b f x l in
    let inner : Formed-at P h x = record {
      soft = ap (λ (v : Vertex). v.rigid) same ∙ n.soft;
      head = λ e. rw same (n.head (ap is_var (sym same) ∙ e));
      below = rw same (below_more (length g) (length h) (vertex g x).args b.longer n.below);
      sorts = λ e. rw same (SortsAt-begins P g h b (vertex g x).args (symbol_of P (vertex g x).head).inputs n.below (n.sorts (ap is_var (sym same) ∙ e)));
      bare = λ e. ap (λ (v : Vertex). v.args) same ∙ n.bare (ap is_var (sym same) ∙ e);
      linked = λ y e.
          let k = n.linked y (ap (λ (v : Vertex). v.link) (sym same) ∙ e) in
          (omega (arith, k.0, b.longer), sort_at_begins P g h b x l ∙ k.1 ∙ sym (sort_at_begins P g h b y k.0));
      rooted = rw r (ap (λ (v : Vertex). v.link) (b.kept (root g x) n.within) ∙ n.rooted);
      within = omega (arith, r, n.within, b.longer);
    } in
    inner
