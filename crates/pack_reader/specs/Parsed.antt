-- The whole pack: the tables that represent it, and what reading it answers.
use Rattle.std.specs.Prelude.{Result, Ok, Err}
use Rattle.std.specs.Prelude.{◌≡◌, refl, List, ℕ, ◌+◌, ◌-◌, ◌/◌, ◌≤◌, ◌<◌, get_or, take, drop, replicate}
use Rattle.std.proofs.Common.{sym, subst, ◌∙◌, arith, length-drop}
use Rattle.std.proofs.Math.Path.{ap}
use Rattle.std.proofs.Math.ListN.{length}
use Rattle.std.proofs.lemmas.List.{length-replicate, get_or-replicate}
use Rattle.definition.specs.declared.Refusal.{Refusal}
use Rattle.definition.specs.Pack.{Pack, empty}
use Rattle.definition.specs.Frame.{fine, refuse}
use Rattle.definition.specs.Parse.{kinds, take_record, parse}
use Rattle.definition.proofs.Laws.Frame.{records-end}
use Rattle.definition.proofs.Laws.Good.{empty_good}
use Rattle.base.specs.Outside.{outside_then}
use Rattle.base.specs.Part.{put, part-lent, length_part, put-lent, length-put, put-at, put-behind}
use Rattle.pack_tables.specs.Catalog.{records_of, Fits, Cleared}
use Rattle.pack_tables.specs.declared.catalog.Catalog.{Catalog}
use Rattle.pack_read.specs.Reads.{Reads, read_none}
use Rattle.pack_reader.specs.Taking.{Reading}
use Rattle.pack_reader.specs.Marks.{Marks, marks_at, Beyond}
use Rattle.pack_reader.specs.Walk.{Walking}

-- the tables of a pack of n bytes: from the start of work on, with room for a record each seven bytes
abbrev pub tables_of : ℕ → Catalog
tables_of n = record { at = 0; cap = n / 7 + 1 }

-- there is room for them and for the marks
pub record Room (bytes work : List ℕ) : Type 0 where
  pub short : length bytes < 4294967296
  pub fits : marks_at (tables_of (length bytes)) + (length bytes / 7 + 1) ≤ length work

-- the tables in work represent the pack P, which these bytes say
pub record Represents (bytes work : List ℕ) (P : Pack) : Type 0 where
  pub reading : Reading bytes work (tables_of (length bytes)) (length bytes)
  pub marks : Marks bytes work (tables_of (length bytes))
  pub reads : Reads bytes (records_of work (tables_of (length bytes))) P

-- what reading a pack answers
abbrev pub Parses : List ℕ → List ℕ → List ℕ → Result (Unit {0}) Refusal → Type 0
Parses bytes work work' (Ok tt) = (P : Pack) × (parse bytes ≡ fine P) × Represents bytes work' P × Beyond work work' (tables_of (length bytes))
Parses bytes work work' (Err r) = parse bytes ≡ refuse r

pub room_fits : (bytes work : List ℕ) → Room bytes work → Fits work (tables_of (length bytes))
room_fits bytes work R = record { small = omega (arith, R.short); fits = omega (arith, R.fits) }

-- no mark is set and no record is there: ahead of the first one
module _ (bytes work work' : List ℕ) (R : Room bytes work) (octets : (i : ℕ) → get_or bytes i 0 < 256) where
  abbrev c : Catalog
  c = tables_of (length bytes)

  opened : (marked : List ℕ) → length marked ≡ length work → ((h : ℕ) → h < c.cap → get_or marked (marks_at c + h) 0 ≡ 0) → ((i : ℕ) → marks_at c + c.cap ≤ i → get_or marked i 0 ≡ get_or work i 0) → Cleared marked work' c → Walking bytes work' c 0 0 × Beyond work work' c
  unfolding parse
  opened marked long zeros behind C =
      let few : (k : ℕ) → k < 9 → length (records_of work' c k) ≡ 0 = λ k h. ap length (C.none k h) in (
        record {
          reading = record { cataloged = C.cataloged bytes; few = λ k h. omega (arith, few k h); cap = refl; short = R.short };
          marks = record {
            room = omega (arith, R.fits, long, C.outside.long);
            found = λ h l m. absurd (omega (arith, m, C.outside.behind (marks_at c + h) (omega arith), zeros h l));
            marked = λ j l. absurd (omega (arith, l, few 7 (omega arith)));
          };
          octets = octets;
          inside = omega arith;
          pack = empty;
          reads = read_none bytes (records_of work' c) (λ k h. C.none k h);
          fit = empty_good;
          left = refl;
        },
        record {
          long = C.outside.long ∙ long;
          ahead = λ i l. absurd (omega arith);
          behind = λ i l. C.outside.behind i (omega arith) ∙ behind i l;
        },
      )

  -- the marks were lent from m to e and came back as zeros
  pub marks-zeroed : (m e : ℕ) (zeros : List ℕ) → m ≡ marks_at c → e ≡ m + c.cap → zeros ≡ replicate (length (take (e - m) (drop m work))) 0 → Cleared (put m (e - m) zeros work) work' c → Walking bytes work' c 0 0 × Beyond work work' c
  marks-zeroed m e zeros at end z C =
      let room : m + c.cap ≤ length work = omega (arith, R.fits, at) in
      let n : length (take (e - m) (drop m work)) ≡ c.cap = ap length (part-lent m e c.cap work end) ∙ length_part m c.cap work room in
      let long : length zeros ≡ c.cap = ap length z ∙ length-replicate (length (take (e - m) (drop m work))) 0 ∙ n in
      let f : put m (e - m) zeros work ≡ put m c.cap zeros work = put-lent m e c.cap work zeros zeros end refl in
      opened (put m c.cap zeros work) (length-put m c.cap work room zeros long)
      (λ h l. ap (λ (k : ℕ). get_or (put m c.cap zeros work) (k + h) 0) (sym at) ∙ put-at m c.cap work room zeros long h l ∙ ap (λ (x : List ℕ). get_or x h 0) z ∙ get_or-replicate (length (take (e - m) (drop m work))) h 0 0 (omega (arith, n)))
      (λ i l. put-behind m c.cap work room zeros long i (omega (arith, at)))
      (subst (λ (x : List ℕ). Cleared x work' c) f C)

-- behind the last record
pub at-end : (bytes work work' : List ℕ) (at last : ℕ) → Walking bytes work' (tables_of (length bytes)) at last → Beyond work work' (tables_of (length bytes)) → length bytes ≤ at → Parses bytes work work' (Ok tt)
at-end bytes work work' at last W B l =
    let e : at ≡ length bytes = omega (arith, W.inside) in (
      W.pack,
      sym W.left ∙ records-end kinds take_record (drop at bytes) at last W.pack (omega (arith, length-drop at bytes)),
      record { reading = subst (Reading bytes work' (tables_of (length bytes))) e W.reading; marks = W.marks; reads = W.reads },
      B,
    )

-- what was changed before the first record
pub parses_from : (bytes work mid work' : List ℕ) (r : Result (Unit {0}) Refusal) → Beyond work mid (tables_of (length bytes)) → Parses bytes mid work' r → Parses bytes work work' r
parses_from bytes work mid work' (Ok tt) B P = (P.0, P.1, P.2, outside_then 0 (marks_at (tables_of (length bytes)) + (tables_of (length bytes)).cap) work mid work' B P.3)
parses_from bytes work mid work' (Err r) B P = P
