-- Nodes read back by the memoised walk over roots: it gives the patterns and the state that `resolve` gives.
use Rattle.std.specs.Prelude.{◌≡◌, refl, Bool, true, false, ℕ, suc, ◌<◌, length}
use Rattle.std.proofs.Common.{sym, ◌∙◌, subst, arith}
use Rattle.std.proofs.Math.Path.{ap, ap₂}
use mathlib.Core.List.{List, [], ◌∷◌, map}
use Rattle.std.proofs.Math.Option.{some}
use Rattle.definition.specs.Test.{never}
use Rattle.definition.specs.Pack.{Pack}
use Rattle.definition.specs.Verdict.{Bound, value_of}
use Rattle.definition.specs.Good.{Below}
use Rattle.definition.specs.Store.{intern}
use Rattle.definition.specs.Graph.{Graph, vertex, root, is_var, circular}
use Rattle.definition.specs.Analysis.{copied, pairing, Numbered, Resolved, resolve_variable, resolve_at, resolve}
use Rattle.theory.specs.Unification.Forest.{Forest}
use Rattle.theory.specs.Copies.Copying.{copied_is, value_of_new, value_of_old, newest, older, looked, value_apart}
use Rattle.theory.specs.Walks.Walk.{Under, under_more, Known, walk, walk-induct}
use Rattle.theory.specs.Walks.Machine.{Frame, turn, Stacked}
use Rattle.theory.specs.Walks.WalkReady.{Sound, turn_going}
use Rattle.theory.specs.Walks.Again.{headed}
use Rattle.theory.specs.Walks.Memo.{has, has_value, has-none, value-has, has_new, has-others}
use Rattle.theory.specs.Unification.Inner.{Inner}
use Rattle.theory.specs.Walks.Levels.{arg_roots, roots_variable, roots_applied, args-under, rank_of, rank_most, ranks_most, roots_fall, roots_inside}
use Rattle.theory.specs.Walks.Deep.{at_same, resolve_then, resolve-one, resolve-none, resolve_deep, reads_back}
use Rattle.theory.specs.Walks.Reading.{numbered_as, resolved_as, later-none, Reads, ReadsAll, no_reads, reads_then, reads_later, at_read, reads_fewer}

-- numbers and store, and what roots were read back to
pub record Resolving : Type 0 where
  pub state : Numbered
  pub memo : List Bound

-- a state with a memo
abbrev pub resolving : Numbered → List Bound → Resolving
resolving st m = record { state = st; memo = m }

-- whether a root was read back
unfoldable pub is_read_whole : Resolving → ℕ → Bool
unfolding has
is_read_whole s x = has s.memo x

-- what the roots of these nodes were read back to
abbrev pub looks_up : Graph → List Bound → List ℕ → Numbered → Resolved
looks_up g m ys st = resolved_as (map (copied m) (map (root g) ys)) st

module _ (P : Pack) (g : Graph) (values : List Bound) (everyone : Bool) where
  -- a root is read back whose arguments' roots were
  unfoldable pub read_root : ℕ → Resolving → Resolving
  unfolding resolve_at copied root
  read_root x s = let o = resolve_at P g values everyone (looks_up g s.memo) x s.state in resolving o.state (pairing x o.pattern ∷ s.memo)

  -- a variable as it is read back
  pub read_variable : (x : ℕ) (s : Resolving) → is_var (vertex g x) ≡ true
      → read_root x s ≡ (let o = resolve_variable P g values everyone x s.state in resolving o.state (pairing x o.pattern ∷ s.memo))
  unfolding read_root
  read_variable x s v = rw (v, resolve_at)

  -- an application over what its arguments' roots were read back to
  pub read_applied : (x : ℕ) (s : Resolving) → is_var (vertex g x) ≡ false
      → read_root x s ≡ (let p = intern s.state.store (headed (vertex g x).head (map (copied s.memo) (map (root g) (vertex g x).args))) in resolving (numbered_as s.state.numbering p.store) (pairing x p.number ∷ s.memo))
  unfolding read_root
  read_applied x s v = rw (v, resolve_at)

  -- it was read back then
  pub read_made : (x : ℕ) (s : Resolving) → is_read_whole (read_root x s) x ≡ true
  unfolding is_read_whole read_root
  read_made x s = has_new s.memo x (resolve_at P g values everyone (looks_up g s.memo) x s.state).pattern

  -- and no other was
  pub read_others : (x y : ℕ) (s : Resolving) → (x ≡ y → ⊥) → is_read_whole (read_root x s) y ≡ is_read_whole s y
  unfolding is_read_whole read_root
  read_others x y s n = has-others s.memo x (resolve_at P g values everyone (looks_up g s.memo) x s.state).pattern y n

  -- a right memo: the state has each root as the pattern that it was read back to
  abbrev pub Right : Resolving → Type 0
  Right s = (x p : ℕ) → value_of x s.memo ≡ some p → Reads P g values everyone s.state x p

  -- the state has roots that were read back
  reads_known : (rs : List ℕ) (s : Resolving) → Right s → Known is_read_whole s rs → ReadsAll P g values everyone s.state rs (map (copied s.memo) rs)
  unfolding is_read_whole
  reads_known [] s R k = no_reads
  reads_known (r ∷ rs) s R k =
      let p = copied s.memo r in
      reads_then r p rs (map (copied s.memo) rs) (R r p (has_value s.memo r k.0)) (reads_known rs s R k.1)

  -- the memo stays right when a root is read back whose arguments' roots were
  pub right-root : (x : ℕ) (s : Resolving) → Known is_read_whole s (arg_roots g x) → Right s → Right (read_root x s)
  unfolding read_root
  right-root x s k R y p e =
      let o = resolve_at P g values everyone (looks_up g s.memo) x s.state in
      let A = at_read P g values everyone (looks_up g s.memo) x s.state
      (λ v. (later-none P g values everyone s.state, reads_known (map (root g) (vertex g x).args) s R (rw (roots_applied g x v) at k))) in
      elim (looked x o.pattern s.memo y p e) [
        | newest i j ↦ rw (i, j) A.1
        | older f ↦ reads_later P g values everyone s.state o.state A.0 y p (R y p f)
      ]

  -- what walking roots gives: a right memo with all that it had and the roots, and the patterns and the state of nodes with these roots, at most d deep
  pub record Walked (d : ℕ) (rs : List ℕ) (s t : Resolving) : Type 0 where
    pub right : Right t
    pub keeps : (x p : ℕ) → value_of x s.memo ≡ some p → value_of x t.memo ≡ some p
    pub knows : Known is_read_whole t rs
    pub same : (xs : List ℕ) → map (root g) xs ≡ rs → resolve d P g values everyone xs s.state ≡ resolved_as (map (copied t.memo) rs) t.state

  -- the nodes of one root and others
  apart : (xs : List ℕ) (r : ℕ) (rs : List ℕ) → map (root g) xs ≡ r ∷ rs → (x : ℕ) × (ys : List ℕ) × (xs ≡ x ∷ ys) × (root g x ≡ r) × (map (root g) ys ≡ rs)
  apart [] r rs e = never (cc)
  apart (x ∷ xs) r rs e = (x, xs, refl, cc, cc)

  -- nothing has no roots
  no_roots : (xs : List ℕ) → map (root g) xs ≡ [] → xs ≡ []
  no_roots [] e = refl
  no_roots (x ∷ xs) e = never (cc)

  -- ranks that fall from a root to its arguments' roots
  module _ (rank : ℕ → ℕ) (falls : (x : ℕ) → Under rank (rank x) (arg_roots g x)) where
    -- a root that was read back stays
    walked_old : (d x : ℕ) (s : Resolving) → rank x < d → is_read_whole s x ≡ true → Right s → Walked d (x ∷ []) s s
    walked_old d x s h k R = record {
      right = R;
      keeps = λ y p e. e;
      knows = (k, tt);
      same = λ xs q. reads_back P g values everyone rank falls s.state (x ∷ []) (copied s.memo x ∷ []) (reads_known (x ∷ []) s R (k, tt)) d xs (subst (Under rank d) (sym q) (h, tt)) q;
    }

    -- a root whose arguments' roots were walked is read back
    read_root_law : (d x : ℕ) (s t : Resolving) → rank x < suc d → Walked (suc d) (arg_roots g x) s t
        → resolve_at P g values everyone (λ ys st. resolve d P g values everyone ys st) x s.state ≡ resolve_at P g values everyone (looks_up g t.memo) x t.state
    read_root_law d x s t h w = at_same P g values everyone (λ ys st. resolve d P g values everyone ys st) (looks_up g t.memo) x s.state t.state
        (λ v. ap (λ (o : Resolved). o.state) (sym (resolve-none P g values everyone (suc d) s.state) ∙ w.same [] (sym (roots_variable g x v))))
        (λ v.
        let args = (vertex g x).args in
        let u = args-under g rank falls d x h v in
        resolve_deep P g values everyone rank falls d (suc d) args s.state u (under_more rank d (suc d) (map (root g) args) (omega arith) u)
        ∙ w.same args (sym (roots_applied g x v))
        ∙ ap (λ (rs : List ℕ). resolved_as (map (copied t.memo) rs) t.state) (roots_applied g x v))

    -- so it is walked
    walked_new : (d x : ℕ) (s t : Resolving) → rank x < suc d → is_read_whole s x ≡ false → Walked (suc d) (arg_roots g x) s t → Walked (suc d) (x ∷ []) s (read_root x t)
    unfolding read_root is_read_whole
    walked_new d x s t h k w =
        let o = resolve_at P g values everyone (looks_up g t.memo) x t.state in
        let m = pairing x o.pattern ∷ t.memo in
        record {
          right = right-root x t w.knows w.right;
          keeps = λ y p e. value_of_old x o.pattern t.memo y (value_apart s.memo y x p e (has-none s.memo x k)) ∙ w.keeps y p e;
          knows = (read_made x t, tt);
          same = λ xs q.
              let z = apart xs x [] q in
              let c : xs ≡ z.0 ∷ [] = z.2 ∙ ap (λ (ys : List ℕ). z.0 ∷ ys) (no_roots z.1 z.4) in
              let e = ap (λ (r : ℕ). resolve_at P g values everyone (λ ys st. resolve d P g values everyone ys st) r s.state) z.3 ∙ read_root_law d x s t h w in
              ap (λ (l : List ℕ). resolve (suc d) P g values everyone l s.state) c
              ∙ resolve_then P g values everyone d z.0 [] s.state o.state o.pattern e
              ∙ ap (λ (r : Resolved). resolved_as (o.pattern ∷ r.patterns) r.state) (resolve-none P g values everyone (suc d) o.state)
              ∙ ap (λ (p : ℕ). resolved_as (p ∷ []) o.state) (sym (copied_is m x o.pattern (value_of_new x o.pattern t.memo)));
        }

    -- one root, then others
    walked_both : (d x : ℕ) (rs : List ℕ) (s t u : Resolving) → Walked (suc d) (x ∷ []) s t → Walked (suc d) rs t u → Walked (suc d) (x ∷ rs) s u
    unfolding is_read_whole
    walked_both d x rs s t u a b =
        let p = copied t.memo x in
        let v = b.keeps x p (has_value t.memo x a.knows.0) in
        record {
          right = b.right;
          keeps = λ y q e. b.keeps y q (a.keeps y q e);
          knows = (value-has u.memo x p v, b.knows);
          same = λ xs q.
              let z = apart xs x rs q in
              let e = resolve-one P g values everyone d z.0 s.state t.state p (a.same (z.0 ∷ []) (ap (λ (r : ℕ). r ∷ []) z.3)) in
              ap (λ (l : List ℕ). resolve (suc d) P g values everyone l s.state) z.2
              ∙ resolve_then P g values everyone d z.0 z.1 s.state t.state p e
              ∙ ap₂ (λ (y : ℕ) (r : Resolved). resolved_as (y ∷ r.patterns) r.state) (sym (copied_is u.memo x p v)) (b.same z.1 z.4);
        }

    -- walking roots with a right memo, whatever depth and fuel are enough
    pub walked : (d e : ℕ) (rs : List ℕ) (s : Resolving) → Under rank (suc d) rs → Under rank e rs → Right s → Walked (suc d) rs s (walk (arg_roots g) is_read_whole read_root e rs s)
    walked d e rs s u v = walk-induct (arg_roots g) is_read_whole read_root rank falls (λ rs s t. Under rank (suc d) rs → Right s → Walked (suc d) rs s t)
        (λ s u R. record { right = R; keeps = λ x p e. e; knows = tt; same = λ xs q. ap (λ (l : List ℕ). resolve (suc d) P g values everyone l s.state) (no_roots xs q) ∙ resolve-none P g values everyone (suc d) s.state })
        (λ x s k u R. walked_old (suc d) x s u.0 k R)
        (λ x s t k q u R. walked_new d x s t u.0 k (q (under_more rank (rank x) (suc d) (arg_roots g x) (omega (arith, u.0)) (falls x)) R))
        (λ x rs s t r p q u R. let w = p (u.0, tt) R in walked_both d x rs s t r w (q u.1 w.right))
        e rs s v u

  -- a graph without circles
  module _ (F : Forest g) (inner : Inner g) (A : circular g ≡ false) where
    -- a node whose root a right memo has is read back as what it has, and the state stays
    pub right_resolves : (s : Resolving) (x p : ℕ) → x < length g → Right s → value_of (root g x) s.memo ≡ some p → resolve (suc (length g)) P g values everyone (x ∷ []) s.state ≡ resolved_as (p ∷ []) s.state
    right_resolves s x p h R e =
        reads_back P g values everyone (rank_of g) (roots_fall g F inner A) s.state (root g x ∷ []) (p ∷ []) (reads_then (root g x) p [] [] (R (root g x) p e) no_reads) (suc (length g)) (x ∷ []) (omega (arith, rank_most g F inner A x h), tt) refl

    -- walking the roots of nodes gives what `resolve` of the nodes gives, and the memo stays right
    pub walk_resolves : (xs : List ℕ) (s : Resolving) → Below (length g) xs → Right s
        → let t = walk (arg_roots g) is_read_whole read_root (length g) (map (root g) xs) s in
        Right t × (resolve (suc (length g)) P g values everyone xs s.state ≡ looks_up g t.memo xs t.state)
    walk_resolves xs s b R =
        let u = ranks_most g F inner A xs b in
        let w = walked (rank_of g) (roots_fall g F inner A) (length g) (length g) (map (root g) xs) s (under_more (rank_of g) (length g) (suc (length g)) (map (root g) xs) (omega arith) u) u R in
        (w.right, w.same xs refl)

    -- so for one node
    pub walk-resolve : (x : ℕ) (s : Resolving) → x < length g → Right s
        → let t = walk (arg_roots g) is_read_whole read_root (length g) (root g x ∷ []) s in
        Right t × (resolve (suc (length g)) P g values everyone (x ∷ []) s.state ≡ resolved_as (copied t.memo (root g x) ∷ []) t.state)
    walk-resolve x s h R = walk_resolves (x ∷ []) s (h, tt) R

    -- each turn of the machine keeps the stack sound and the memo right
    pub read_going : (d : ℕ) (f : Frame) (fs : List Frame) (s : Resolving)
        → Stacked (arg_roots g) is_read_whole read_root (rank_of g) (roots_fall g F inner A) 0 d (f ∷ fs)
        → Sound (arg_roots g) is_read_whole read_root read_made read_others (rank_of g) (roots_fall g F inner A) (length g) (roots_inside g F inner A) s (f ∷ fs)
        → Right s
        → let w = turn (arg_roots g) is_read_whole read_root (f ∷ fs) s in
        Sound (arg_roots g) is_read_whole read_root read_made read_others (rank_of g) (roots_fall g F inner A) (length g) (roots_inside g F inner A) w.state w.stack × Right w.state
    read_going = turn_going (arg_roots g) is_read_whole read_root read_made read_others (rank_of g) (roots_fall g F inner A) (length g) (roots_inside g F inner A) Right (λ x s h u k R. right-root x s k R)

-- a memo that is right where all variables are numbered is right where they are not
pub right_fewer : (P : Pack) (g : Graph) (values : List Bound) (s : Resolving) → Right P g values true s → Right P g values false s
right_fewer P g values s R x p e = reads_fewer P g values s.state x p (R x p e)

-- an empty memo is right
pub right-none : (P : Pack) (g : Graph) (values : List Bound) (everyone : Bool) (st : Numbered) → Right P g values everyone (resolving st [])
unfolding value_of
right-none P g values everyone st x p e = never (cc)

-- a class's conclusion with all variables numbered, then its entries with the same memo: both walks give what `resolve` gives
pub reads_both : (P : Pack) (g : Graph) (values : List Bound) → Forest g → Inner g → circular g ≡ false → (x : ℕ) (xs : List ℕ) (st : Numbered) → x < length g → Below (length g) xs
    → let t = walk (arg_roots g) is_read_whole (read_root P g values true) (length g) (root g x ∷ []) (resolving st []) in
    let u = walk (arg_roots g) is_read_whole (read_root P g values false) (length g) (map (root g) xs) t in
    (resolve (suc (length g)) P g values true (x ∷ []) st ≡ resolved_as (copied t.memo (root g x) ∷ []) t.state)
    × (resolve (suc (length g)) P g values false xs t.state ≡ looks_up g u.memo xs u.state)
reads_both P g values F inner A x xs st h b =
    let a = walk-resolve P g values true F inner A x (resolving st []) h (right-none P g values true st) in
    let t = walk (arg_roots g) is_read_whole (read_root P g values true) (length g) (root g x ∷ []) (resolving st []) in
    (a.1, (walk_resolves P g values false F inner A xs t b (right_fewer P g values t a.0)).1)
