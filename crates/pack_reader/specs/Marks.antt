-- The marks of cut predicates: behind the regions of records stands a word a symbol, 0 or the number of its cut and one. What taking up
-- a record of any kind answers, with them.
use Rattle.std.specs.Prelude.{Result, Ok, Err}
use Rattle.std.specs.Prelude.{◌≡◌, true, false, List, ℕ, ◌+◌, ◌*◌, ◌-◌, ◌≤◌, ◌<◌, eqb, length, get_or}
use Rattle.std.proofs.Common.{sym, ◌∙◌, arith, eqb-true, eq-eqb}
use Rattle.std.proofs.Math.Path.{ap}
use Rattle.definition.specs.Test.{any, is, see}
use Rattle.definition.specs.Little.{le}
use Rattle.definition.specs.Pack.{Pack, Cut}
use Rattle.definition.specs.Good.{no_cut}
use Rattle.definition.specs.Frame.{Checked, good, bad, over}
use Rattle.definition.proofs.Laws.Agreement.{any_some, some_any}
use Rattle.base.specs.Outside.{Outside, outside_wider}
use Rattle.pack_tables.specs.Place.{Place}
use Rattle.pack_tables.specs.Region.{size_for}
use Rattle.pack_tables.specs.Catalog.{records_of, Beside}
use Rattle.pack_tables.specs.declared.catalog.Catalog.{Catalog}
use Rattle.pack_read.specs.Body.{body_of, cut_in}
use Rattle.pack_read.specs.Reads.{Reads, OneMore, cut_of, length_cuts}
use Rattle.pack_reader.specs.Taking.{Reading, Takes}
use Rattle.pack_reader.specs.declared.taken.Fault.{Fault}
use Rattle.pack_reader.specs.declared.taken.Fault.TheVariants.{Bad, Over}

abbrev pub marks_at : Catalog → ℕ
marks_at c = c.at + 9 * size_for c.cap

-- the mark of a symbol
abbrev pub mark_of : List ℕ → Catalog → ℕ → ℕ
mark_of work c h = get_or work (marks_at c + h) 0

-- the predicate of cut j
abbrev pub predicate_at : List ℕ → List Place → ℕ → ℕ
predicate_at bytes ps j = le 4 (body_of bytes ps j) 0

-- the marks are of these cuts
pub record Marks (bytes work : List ℕ) (c : Catalog) : Type 0 where
  pub room : marks_at c + c.cap ≤ length work
  pub found : (h : ℕ) → h < c.cap → 0 < mark_of work c h → (mark_of work c h ≤ length (records_of work c 7)) × (predicate_at bytes (records_of work c 7) (mark_of work c h - 1) ≡ h)
  pub marked : (j : ℕ) → j < length (records_of work c 7) → (predicate_at bytes (records_of work c 7) j < c.cap) × (mark_of work c (predicate_at bytes (records_of work c 7) j) ≡ j + 1)

-- a mark says whether a predicate is cut
module _ (bytes work : List ℕ) (c : Catalog) (M : Marks bytes work c) (P : Pack) (R : Reads bytes (records_of work c) P) (h : ℕ) (l : h < c.cap) where
  predicate_of : (j : ℕ) → j < length (records_of work c 7) → (get_or P.cuts j no_cut).predicate ≡ predicate_at bytes (records_of work c 7) j
  unfolding cut_in
  predicate_of j k = ap (λ (x : Cut). x.predicate) (cut_of bytes (records_of work c) P R j k)

  pub marked-cut : 0 < mark_of work c h → any (λ (x : Cut). eqb x.predicate h) P.cuts ≡ true
  marked-cut m =
      let f = M.found h l m in
      let k : mark_of work c h - 1 < length (records_of work c 7) = omega (arith, f.0) in
      some_any (λ (x : Cut). eqb x.predicate h) no_cut P.cuts (mark_of work c h - 1) (omega (arith, length_cuts bytes (records_of work c) P R))
      (eq-eqb (get_or P.cuts (mark_of work c h - 1) no_cut).predicate h (predicate_of (mark_of work c h - 1) k ∙ f.1))

  pub unmarked_cut : mark_of work c h ≡ 0 → any (λ (x : Cut). eqb x.predicate h) P.cuts ≡ false
  unmarked_cut m = elim (see (any (λ (x : Cut). eqb x.predicate h) P.cuts)) [
    | is true p ↦
        let s = any_some (λ (x : Cut). eqb x.predicate h) no_cut P.cuts p in
        let k : s.0 < length (records_of work c 7) = omega (arith, s.1, length_cuts bytes (records_of work c) P R) in
        let e : predicate_at bytes (records_of work c 7) s.0 ≡ h = sym (predicate_of s.0 k) ∙ eqb-true (get_or P.cuts s.0 no_cut).predicate h s.2 in
        let q : mark_of work c h ≡ s.0 + 1 = ap (mark_of work c) (sym e) ∙ (M.marked s.0 k).1 in
        absurd (omega arith)
    | is false p ↦ p
  ]

-- records of other kinds leave the marks right
pub marks-kept : (bytes work work' : List ℕ) (c : Catalog) (k : ℕ) (p : Place) → Marks bytes work c → (k ≡ 7 → ⊥) → OneMore (records_of work c) (records_of work' c) k p → Beside work work' c → Marks bytes work' c
marks-kept bytes work work' c k p M d O F =
    let e : records_of work' c 7 ≡ records_of work c 7 = O.same 7 (omega arith) (λ q. d (sym q)) in
    let same-mark : (h : ℕ) → mark_of work' c h ≡ mark_of work c h = λ h. F.behind (marks_at c + h) (omega arith) in
    record {
      room = omega (arith, M.room, F.long);
      found = λ h l m. rw (e, same-mark h) (M.found h l (rw (same-mark h) at m));
      marked = λ j l. marked-at j (rw e at l) e same-mark;
    }
  where
    marked-at : (j : ℕ) → j < length (records_of work c 7) → records_of work' c 7 ≡ records_of work c 7 → ((h : ℕ) → mark_of work' c h ≡ mark_of work c h)
        → (predicate_at bytes (records_of work' c 7) j < c.cap) × (mark_of work' c (predicate_at bytes (records_of work' c 7) j) ≡ j + 1)
    marked-at j l e s = rw e ((M.marked j l).0, s (predicate_at bytes (records_of work c 7) j) ∙ (M.marked j l).1)

-- what stands before the regions and behind the marks is as it was
abbrev pub Beyond : List ℕ → List ℕ → Catalog → Type 0
Beyond work work' c = Outside c.at (marks_at c + c.cap) work work'

-- a record was taken up: the reader is ahead of the next one, and the marks are right
pub record Advanced (bytes work work' : List ℕ) (c : Catalog) (end : ℕ) (take : Pack → Checked Pack) : Type 0 where
  pub reading : Reading bytes work' c end
  pub marks : Marks bytes work' c
  pub beyond : Beyond work work' c
  pub says : (P : Pack) → Reads bytes (records_of work c) P → (Q : Pack) × (take P ≡ good Q) × Reads bytes (records_of work' c) Q

-- what taking up a record of any kind answers, if `take` is the definition's test of it
abbrev pub Advances : List ℕ → List ℕ → List ℕ → Catalog → ℕ → (Pack → Checked Pack) → Result (Unit {0}) Fault → Type 0
Advances bytes work work' c end take (Ok tt) = Advanced bytes work work' c end take
Advances bytes work work' c end take (Err Bad) = (P : Pack) → Reads bytes (records_of work c) P → take P ≡ bad
Advances bytes work work' c end take (Err Over) = (P : Pack) → Reads bytes (records_of work c) P → take P ≡ over

-- a record that is no cut
pub takes_advances : (bytes work work' : List ℕ) (c : Catalog) (k end : ℕ) (take : Pack → Checked Pack) (r : Result (Unit {0}) Fault) → Marks bytes work c → (k ≡ 7 → ⊥) → Takes bytes work work' c k end take r → Advances bytes work work' c end take r
takes_advances bytes work work' c k end take (Ok tt) M d T = record {
  reading = T.reading;
  marks = marks-kept bytes work work' c k T.place M d T.more T.outside;
  beyond = outside_wider c.at (c.at + 9 * size_for c.cap) c.at (marks_at c + c.cap) work work' (omega arith) (omega arith) T.outside;
  says = T.says;
}
takes_advances bytes work work' c k end take (Err Bad) M d T = T
takes_advances bytes work work' c k end take (Err Over) M d T = T
