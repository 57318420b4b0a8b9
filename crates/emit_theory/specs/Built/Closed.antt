-- Tests of a graph's nodes that go along with links and down to arguments: what passes after two nodes were unified did so before, and both
-- nodes pass or neither.
use Rattle.std.specs.Prelude.{◌≡◌, Bool, true, false, eqb, length}
use Rattle.std.proofs.Math.Path.{refl, sym, ap}
use Rattle.std.proofs.Common.{◌∙◌, arith}
use mathlib.Core.List.{List, [], ◌∷◌}
use Rattle.std.proofs.Math.Option.{none, some}
use Prim.Native.Nat.{ℕ, zero, suc, ◌<◌}
use Rattle.definition.specs.Test.{is, see, never, tests}
use Rattle.definition.specs.Pack.{Pack, symbol_of}
use Rattle.definition.specs.Graph.{Vertex, Graph, vertex, follow, root, is_var, Pair, last_first, join, bind, Turn, on, clashed, meet, Unified, take_pairs, unify, cells}
use Rattle.theory.specs.Unification.Solve.{sort_at, SortsAt, Formed, Begins}
use Rattle.theory.specs.Unification.Roots.{follow-none, follow_some, Inside}
use Rattle.theory.specs.Unification.Join.{Joined, join-joined, bind-joined}
use Rattle.theory.specs.Unification.Kept.{same_var, formed_inside, root-sort}
use Rattle.theory.specs.Unification.Pairs.{Paired, sorts-length}
use Rattle.theory.specs.Unification.Meet.{Met, same, left, right, both, apart, met, Leads, Roots, meet_says}
use Rattle.theory.specs.Unification.Unify.{take_clashed, take_on}
use Rattle.theory.specs.Patterns.Fixed.{Each}

-- all of these nodes pass
abbrev pub Pass : (ℕ → Bool) → List ℕ → Type 0
Pass H xs = Each (λ x. H x ≡ true) xs

-- joined nodes pass alike, and with an application that is joined to none all its arguments pass
pub record Closed (H : ℕ → Bool) (g : Graph) : Type 0 where
  pub links : (x y : ℕ) → x < length g → (vertex g x).link ≡ some y → H x ≡ H y
  pub apps : (x : ℕ) → x < length g → (vertex g x).link ≡ none → is_var (vertex g x) ≡ false → H x ≡ true → Pass H (vertex g x).args

-- it is so in what a graph begins with
pub closed_begins : (H : ℕ → Bool) (g h : Graph) → Begins g h → Closed H h → Closed H g
closed_begins H g h b C = record {
  links = λ x y l e. C.links x y (omega (arith, b.longer)) (ap (λ (v : Vertex). v.link) (b.kept x l) ∙ e);
  apps = λ x l e v p. let same = b.kept x l in rw same at (C.apps x (omega (arith, b.longer)) (ap (λ (v : Vertex). v.link) same ∙ e) (ap is_var same ∙ v) p);
}

-- the pairs pass alike
abbrev Alike : (ℕ → Bool) → List Pair → Type 0
Alike H [] = Unit {0}
Alike H (p ∷ work) = (H p.left ≡ H p.right) × Alike H work

module _ (H : ℕ → Bool) where
  -- a chain passes alike
  follow_alike : (g : Graph) → Inside g → Closed H g → (k x : ℕ) → x < length g → H x ≡ H (follow k g x)
  unfolding follow
  follow_alike g I C zero x l = refl
  follow_alike g I C (suc k) x l = elim (see (vertex g x).link) [
    | is none e ↦ ap H (sym (follow-none (suc k) g x e))
    | is (some y) e ↦ C.links x y l e ∙ follow_alike g I C k y (I x y l e) ∙ ap H (sym (follow_some k g x y e))
  ]

  -- a node passes just if its root does
  pub root_alike : (g : Graph) → Inside g → Closed H g → (x : ℕ) → x < length g → H x ≡ H (root g x)
  unfolding root
  root_alike g I C x l = follow_alike g I C (length g) x l

  -- arguments side by side pass alike: if the second ones pass, so do the first
  args_alike : (xs ys : List ℕ) (work : List Pair) → length xs ≡ length ys → Alike H (last_first xs ys work) → (Pass H ys → Pass H xs) × Alike H work
  unfolding last_first
  args_alike [] [] work l a = (λ p. tt, a)
  args_alike [] (y ∷ ys) work l a = absurd (omega arith)
  args_alike (x ∷ xs) [] work l a = absurd (omega arith)
  args_alike (x ∷ xs) (y ∷ ys) work l a =
      let h = args_alike xs ys (record { left = x; right = y } ∷ work) (omega arith) a in
      (λ p. (h.1.0 ∙ p.0, h.0 p.1), h.1.1)

  -- before x was joined to y
  joined_closed : (g h : Graph) (x y : ℕ) → Joined g h x y → x < length g → (vertex g x).link ≡ none
      → (is_var (vertex g x) ≡ false → H x ≡ true → Pass H (vertex g x).args) → Closed H h → Closed H g × (H x ≡ H y)
  joined_closed g h x y j l r own C =
      let m = j.same.long in (
        record {
          links = λ z w k q.
              let zx : z ≡ x → ⊥ = λ p. let c : some w ≡ none = sym (rw p at q) ∙ r in never (cc) in
              C.links z w (omega arith) (j.there z zx ∙ q);
          apps = λ z k e v p. elim (see (eqb z x)) [
            | is true t ↦ let zx : z ≡ x = omega tests in rw zx (own (rw zx at v) (rw zx at p))
            | is false t ↦ rw (j.same.args z) at (C.apps z (omega arith) (j.there z (λ q. omega tests) ∙ e) (same_var g h j.same z ∙ v) p)
          ];
        },
        C.links x y (omega arith) j.here,
      )

  module _ (P : Pack) (g : Graph) (F : Formed P g) (work : List Pair) where
    -- what a turn says
    abbrev Back : ℕ → ℕ → Turn → Type 0
    Back x y (on h more) = Closed H h → Alike H more → Closed H g × (H x ≡ H y) × Alike H work
    Back x y clashed = Unit {0}

    -- whichever way two roots meet
    met_closed : (x y : ℕ) → Roots P g x y → (t : Turn) → Met g x y work t → Back x y t
    met_closed x y R t (same e) = λ C a. (C, ap H e, a)
    met_closed x y R t (left n v) = λ C a.
        let b = joined_closed g (bind g x y) x y (bind-joined g x y R.inside_x R.inside_y R.root_x n) R.inside_x R.root_x (λ w. never (let z : true ≡ false = sym v ∙ w in cc)) C in
        (b.0, b.1, a)
    met_closed x y R t (right n v) = λ C a.
        let b = joined_closed g (bind g y x) y x (bind-joined g y x R.inside_y R.inside_x R.root_y (λ q. n (sym q))) R.inside_y R.root_y (λ w. never (let z : true ≡ false = sym v ∙ w in cc)) C in
        (b.0, sym b.1, a)
    met_closed x y R t (both n vx vy e) = λ C a.
        let xs = (vertex g x).args in
        let ys = (vertex g y).args in
        let ss = (symbol_of P (vertex g x).head).inputs in
        let sx : SortsAt P g xs ss = (F x R.inside_x).sorts vx in
        let sy : SortsAt P g ys ss = rw e ((F y R.inside_y).sorts vy) in
        let h = join g x y in
        let j = join-joined g x y R.inside_x R.root_x in
        let A = args_alike xs ys work (sorts-length P g xs ss sx ∙ sym (sorts-length P g ys ss sy)) a in
        let m = j.same.long in
        let own : is_var (vertex g x) ≡ false → H x ≡ true → Pass H xs = λ v p.
        let q : H y ≡ true = sym (C.links x y (rw m R.inside_x) j.here) ∙ p in
        let below : Pass H (vertex h y).args = C.apps y (rw m R.inside_y) (j.there y (λ r. n (sym r)) ∙ R.root_y) (same_var g h j.same y ∙ vy) q in
        A.0 (rw (j.same.args y) at below) in
        let b = joined_closed g h x y j R.inside_x R.root_x own C in
        (b.0, b.1, A.1)
    met_closed x y R t (apart vx vy n) = tt

  -- before pairs were taken
  take_closed : (P : Pack) (k : ℕ) (g : Graph) (work : List Pair) (n : ℕ) → Formed P g → Paired P g work → (h : Graph) → (take_pairs k g work n).graph ≡ some h → Closed H h → Closed H g × Alike H work
  unfolding take_pairs
  take_closed P zero g [] n F W h e C = let q : g ≡ h = cc in (rw q C, tt)
  take_closed P zero g (p ∷ work) n F W h e C = never (cc)
  take_closed P (suc k) g [] n F W h e C = let q : g ≡ h = cc in (rw q C, tt)
  take_closed P (suc k) g (p ∷ work) n F W h e C =
      let a = F p.left W.0 in
      let b = F p.right W.1 in
      let x = root g p.left in
      let y = root g p.right in
      let R : Roots P g x y = record {
        inside_x = a.within;
        inside_y = b.within;
        root_x = a.rooted;
        root_y = b.rooted;
        sort = sym (root-sort P g F p.left W.0) ∙ W.2 ∙ root-sort P g F p.right W.1;
      } in
      let T = meet_says P g F work W.3 x y R in
      let B = met_closed P g F work x y R (meet g x y work) (met g x y work (F x a.within).soft (F y b.within).soft) in
      elim (see (meet g x y work)) [
        | is clashed m ↦ never (let z : none ≡ some h = sym (ap (λ (u : Unified). u.graph) (take_clashed k g p work n m)) ∙ e in cc)
        | is (on f more) m ↦
            let L : Leads P g x y work f more = rw m at T in
            let back : Back P g F work x y (on f more) = rw m at B in
            let r = take_closed P k f more (suc n) L.formed L.paired h (sym (ap (λ (u : Unified). u.graph) (take_on k g p work n f more m)) ∙ e) C in
            let o = back r.0 r.1 in
            let I = formed_inside P g F in
            (o.0, (root_alike g I o.0 p.left W.0 ∙ o.1 ∙ sym (root_alike g I o.0 p.right W.1), o.2))
      ]

  -- before two nodes were unified, and the two pass alike
  pub unify_closed : (P : Pack) (g : Graph) (x y : ℕ) → Formed P g → x < length g → y < length g → sort_at P g x ≡ sort_at P g y → (h : Graph) → (unify g x y).graph ≡ some h → Closed H h → Closed H g × (H x ≡ H y)
  unfolding unify
  unify_closed P g x y F hx hy s h e C = let r = take_closed P (suc (cells g)) g (record { left = x; right = y } ∷ []) 0 F (hx, hy, s, tt) h e C in (r.0, r.1.0)
