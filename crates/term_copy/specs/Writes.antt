-- What is read from the tables, and what is written into them.
use Rattle.std.specs.Prelude.{Option, Some, None, unwrap_or}
use Rattle.std.specs.Prelude.{◌≡◌, refl, Bool, true, false, List, [], ◌∷◌, map, ℕ, zero, suc, ◌+◌, ◌-◌, ◌≤◌, ◌<◌, eqb, length, get_or, set, take, drop}
use Rattle.std.proofs.Common.{sym, ap, ◌∙◌, subst, add-one, arith, eqb-true, eq-eqb, ne_eqb, length-drop, get_or-set_same, get_or-set_other, get_or-drop, take_all}
use Rattle.std.proofs.Math.Option.{none, some}
use Rattle.std.proofs.lemmas.Bool.{eqb-false}
use Rattle.std.proofs.lemmas.List.{length-map}
use Rattle.std.proofs.Math.ListN.{get_or-eq_default}
use Rattle.definition.specs.Test.{is, see}
use Rattle.definition.specs.Store.{variable_head}
use Rattle.definition.specs.Good.{Below}
use Rattle.definition.proofs.Laws.Grow.{map_at, below_at}
use Rattle.base.specs.Part.{take-copied}
use Rattle.base.specs.Outside.{Outside, outside_none, outside_set}
use Rattle.memo.specs.Recall.{known}
use Rattle.memo.specs.declared.memo.Memo.{Memo}
use Rattle.graph.specs.Cells.{mark_in, marks_in}
use Rattle.term_copy.specs.declared.node.Copying.{Copying}
use Rattle.term_copy.specs.Places.{value_in, or_zero, copy_in}
use Rattle.term_copy.specs.Steps.{mark_at, noted, Notes, number_for}

-- ---- what the memo has
pub copy-value : (work : List ℕ) (l : Copying) (memo : Memo) (q v : ℕ) (r : Option ℕ) → known r ≡ value_in work l memo q → r ≡ Some v → v ≡ copy_in work l memo q
unfolding copy_in
copy-value work l memo q v r e f = let g : value_in work l memo q ≡ some v = sym e ∙ ap known f in ap or_zero (sym g)

-- nothing is 0
pub copy-none : (work : List ℕ) (l : Copying) (memo : Memo) (q : ℕ) (r : Option ℕ) → known r ≡ value_in work l memo q → r ≡ None → 0 ≡ copy_in work l memo q
unfolding copy_in
copy-none work l memo q r e f = let g : value_in work l memo q ≡ none = sym e ∙ ap known f in ap or_zero (sym g)

-- one or the other
pub copy-either : (work : List ℕ) (l : Copying) (memo : Memo) (q : ℕ) (r : Option ℕ) → known r ≡ value_in work l memo q → unwrap_or r 0 ≡ copy_in work l memo q
copy-either work l memo q (Some v) e = copy-value work l memo q v (Some v) e refl
copy-either work l memo q None e = copy-none work l memo q None e refl

-- ---- arguments gathered
pub gather_more : (f : ℕ → ℕ) (key args : List ℕ) (i v : ℕ) → i + 1 < length key → i < length args → v ≡ f (get_or key (i + 1) 0) → take i args ≡ take i (map f (drop 1 key)) → take (i + 1) (set args i v) ≡ take (i + 1) (map f (drop 1 key))
gather_more f key args i v h k e t =
    let ys : List ℕ = map f (drop 1 key) in
    let m : length ys ≡ length key - 1 = length-map (drop 1 key) f ∙ length-drop 1 key in
    let q : 1 + i ≡ i + 1 = omega arith in
    let w : v ≡ get_or ys i 0 = e ∙ ap (λ (j : ℕ). f (get_or key j 0)) (sym q) ∙ ap f (sym (get_or-drop 1 key i 0)) ∙ sym (map_at f (drop 1 key) i (omega (arith, length-drop 1 key))) in
    ap (λ (j : ℕ). take (i + 1) (set args i j)) w ∙ take-copied i ys args (omega (arith, m)) k t

-- all of them
pub gather_all : (f : ℕ → ℕ) (key args : List ℕ) (i : ℕ) → length args ≡ length key - 1 → length args ≤ i → i ≤ length args → take i args ≡ take i (map f (drop 1 key)) → args ≡ map f (drop 1 key)
gather_all f key args i n h k t =
    sym (take_all i args h) ∙ t ∙ take_all i (map f (drop 1 key)) (omega (arith, length-map (drop 1 key) f, length-drop 1 key))

-- an argument of a key
pub argument_below : (n : ℕ) (key : List ℕ) (i : ℕ) → Below n (drop 1 key) → i + 1 < length key → get_or key (i + 1) 0 < n
argument_below n key i b h =
    let e : 1 + i ≡ i + 1 = omega arith in
    subst (λ (j : ℕ). get_or key j 0 < n) e (subst (λ (j : ℕ). j < n) (get_or-drop 1 key i 0) (below_at n (drop 1 key) i b (omega (arith, length-drop 1 key))))

-- ---- marks and notes
pub mark-at : (flex : List ℕ) (k : ℕ) → k < length flex → mark_in (get_or flex k 0) ≡ mark_at flex k
mark-at [] k h = absurd (omega arith)
mark-at (m ∷ flex) zero h = refl
mark-at (m ∷ flex) (suc k) h = mark-at flex k (omega arith)

-- beyond the last
pub mark-none : (flex : List ℕ) (k : ℕ) → length flex ≤ k → mark_in 0 ≡ mark_at flex k
mark-none flex k h = sym (get_or-eq_default (marks_in flex) false {n = k} (omega (arith, length-map flex mark_in)))

module _ (work flex : List ℕ) (l : Copying) (k x : ℕ) (marks : l.variables + length flex ≤ l.graph) (fits : l.graph ≤ length work) where
  -- a variable of the class
  pub note-set : k < length flex → Outside l.variables l.graph work (set work (l.variables + k) (x + 1)) × Notes work (set work (l.variables + k) (x + 1)) flex l (some k) x
  note-set h = (
    outside_set l.variables l.graph work (l.variables + k) (x + 1) (omega arith) (omega arith),
    λ j b. elim (see (eqb k j)) [
      | is true e ↦ let q : j ≡ k = sym (eqb-true k j e) in rw (e, noted) (ap (λ (i : ℕ). get_or (set work (l.variables + k) (x + 1)) (l.variables + i) 0) q ∙ get_or-set_same work (l.variables + k) (x + 1) 0 (omega arith) ∙ add-one x)
      | is false e ↦ rw (e, noted) (get_or-set_other work (l.variables + k) (l.variables + j) (x + 1) 0 (λ q. absurd (eqb-false k j e (omega arith))))
    ],
  )

  -- another
  pub note-none : length flex ≤ k → Outside l.variables l.graph work work × Notes work work flex l (some k) x
  note-none h = (outside_none l.variables l.graph work, λ j b. let e = ne_eqb k j (λ q. absurd (omega arith)) in rw (e, noted))

-- a node that is no variable is not noted; a variable is by its number
module _ (work work' flex : List ℕ) (l : Copying) (key : List ℕ) (x : ℕ) where
  -- by whether its head says that it is a variable
  abbrev NotesBy : Bool → Type 0
  NotesBy b = Outside l.variables l.graph work work' × Notes work work' flex l (elim b [ true ↦ some (get_or key 1 0) | false ↦ none ]) x

  -- a variable
  pub notes-variable : get_or key 0 0 ≡ variable_head → Outside l.variables l.graph work work' × Notes work work' flex l (some (get_or key 1 0)) x → Outside l.variables l.graph work work' × Notes work work' flex l (number_for key) x
  notes-variable e N = subst NotesBy (sym (eq-eqb (get_or key 0 0) variable_head e)) N

  -- no variable
  pub notes-other : (get_or key 0 0 ≡ variable_head → ⊥) → Outside l.variables l.graph work work' × Notes work work' flex l none x → Outside l.variables l.graph work work' × Notes work work' flex l (number_for key) x
  notes-other e N = subst NotesBy (sym (ne_eqb (get_or key 0 0) variable_head e)) N
