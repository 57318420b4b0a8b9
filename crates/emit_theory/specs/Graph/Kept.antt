-- A graph that keeps another's nodes, whatever they are joined to and however they are marked: it may have more, and those there have the
-- sorts that they had.
use Rattle.std.specs.Prelude.{◌≡◌, refl, true, false, List, [], ◌∷◌, ℕ, ◌<◌, ◌≤◌, length, get_or}
use Rattle.std.proofs.Common.{sym, ap, ◌∙◌, arith}
use Rattle.definition.specs.Test.{is, see}
use Rattle.definition.specs.Pack.{Pack, symbol_of}
use Rattle.definition.specs.Good.{Below}
use Rattle.definition.specs.Graph.{Vertex, Graph, vertex, is_var}
use Rattle.theory.specs.Unification.Solve.{sort_at, SortsAt, SameNodes, Begins}
use Rattle.theory.specs.Copies.Begin.{sort_at-variable, sort_at-applied}

-- the nodes of g are in h, each with its head, its arguments and its sort
pub record Keeps (g h : Graph) : Type 0 where
  pub longer : length g ≤ length h
  pub heads : (x : ℕ) → x < length g → (vertex h x).head ≡ (vertex g x).head
  pub args : (x : ℕ) → x < length g → (vertex h x).args ≡ (vertex g x).args
  pub sorts : (x : ℕ) → x < length g → (vertex h x).sort ≡ (vertex g x).sort

-- a graph keeps its own nodes
pub keeps_refl : (g : Graph) → Keeps g g
keeps_refl g = record { longer = omega arith; heads = λ x l. refl; args = λ x l. refl; sorts = λ x l. refl }

-- what keeps what keeps a graph's nodes keeps them
pub keeps_trans : (f g h : Graph) → Keeps f g → Keeps g h → Keeps f h
keeps_trans f g h a b =
    let m = a.longer in
    let n = b.longer in
    record {
      longer = omega arith;
      heads = λ x l. b.heads x (omega arith) ∙ a.heads x l;
      args = λ x l. b.args x (omega arith) ∙ a.args x l;
      sorts = λ x l. b.sorts x (omega arith) ∙ a.sorts x l;
    }

-- a graph that begins with another keeps its nodes
pub keeps_begins : (g h : Graph) → Begins g h → Keeps g h
keeps_begins g h b = record {
  longer = b.longer;
  heads = λ x l. ap (λ (v : Vertex). v.head) (b.kept x l);
  args = λ x l. ap (λ (v : Vertex). v.args) (b.kept x l);
  sorts = λ x l. ap (λ (v : Vertex). v.sort) (b.kept x l);
}

-- so does a graph of the same nodes
pub keeps_same : (g h : Graph) → SameNodes g h → Keeps g h
keeps_same g h s = let m = s.long in record { longer = omega arith; heads = λ x l. s.heads x; args = λ x l. s.args x; sorts = λ x l. s.sorts x }

-- a node that is kept is a variable just if it was one
pub keeps_var : (g h : Graph) → Keeps g h → (x : ℕ) → x < length g → is_var (vertex h x) ≡ is_var (vertex g x)
unfolding is_var
keeps_var g h k x l = rw (k.heads x l) refl

-- it has the sort that it had
pub keeps_sort : (P : Pack) (g h : Graph) → Keeps g h → (x : ℕ) → x < length g → sort_at P h x ≡ sort_at P g x
keeps_sort P g h k x l = let v = keeps_var g h k x l in elim (see (is_var (vertex g x))) [
  | is true e ↦ sort_at-variable P h x (v ∙ e) ∙ k.sorts x l ∙ sym (sort_at-variable P g x e)
  | is false e ↦ sort_at-applied P h x (v ∙ e) ∙ ap (λ (y : ℕ). (symbol_of P y).output) (k.heads x l) ∙ sym (sort_at-applied P g x e)
]

-- nodes that are kept have the sorts that they had
pub keeps_sorts : (P : Pack) (g h : Graph) → Keeps g h → (xs ss : List ℕ) → Below (length g) xs → SortsAt P g xs ss → SortsAt P h xs ss
keeps_sorts P g h k [] [] b q = tt
keeps_sorts P g h k [] (s ∷ ss) b q = absurd q
keeps_sorts P g h k (x ∷ xs) [] b q = absurd q
keeps_sorts P g h k (x ∷ xs) (s ∷ ss) b q = (keeps_sort P g h k x b.0 ∙ q.0, keeps_sorts P g h k xs ss b.1 q.1)

-- for each variable of a rule a node of its sort
abbrev pub Standing : Pack → List ℕ → List ℕ → Graph → Type 0
Standing P vars env g = (k : ℕ) → k < length vars → (get_or env k 0 < length g) × (sort_at P g (get_or env k 0) ≡ get_or vars k 0)

-- where the nodes are kept, these stand for the variables still
pub standing_kept : (P : Pack) (vars env : List ℕ) (g h : Graph) → Keeps g h → Standing P vars env g → Standing P vars env h
standing_kept P vars env g h k S i l =
    let s = S i l in
    let m = k.longer in
    (omega (arith, s.0), keeps_sort P g h k (get_or env i 0) s.0 ∙ s.1)
