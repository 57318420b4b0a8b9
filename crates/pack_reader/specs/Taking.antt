-- What the reader holds between two records, and what taking one up answers.
use Rattle.std.specs.Prelude.{Result, Ok, Err}
use Rattle.std.specs.Prelude.{◌≡◌, refl, true, false, List, [], ◌∷◌, ℕ, ◌+◌, ◌*◌, ◌-◌, ◌/◌, ◌≤◌, ◌<◌, length, get_or, drop}
use Rattle.std.proofs.Common.{sym, ap, ◌∙◌, arith, length-append, length-drop, get_or-drop}
use Rattle.std.proofs.Math.Decide.{ℕ_discrete}
use Rattle.definition.specs.Little.{le}
use Rattle.base.specs.Part.{part, part_at, part_is}
use Rattle.definition.specs.Test.{◌and◌, any, same}
use Rattle.definition.specs.Pack.{Pack}
use Rattle.definition.proofs.Laws.Decide.{names_any, names_none}
use Rattle.definition.specs.Frame.{Checked, good, bad, over}
use Rattle.pack_tables.specs.Place.{Place, no_place, end_of, key_at, body_at}
use Rattle.pack_tables.specs.Catalog.{records_of, keyed_kind, cap_room, Cataloged, Beside, More, EnteringIn, EntersIn, FindsIn}
use Rattle.pack_tables.specs.declared.region.Entered.TheVariants.{New, Old}
use Rattle.pack_tables.specs.declared.catalog.Catalog.{Catalog}
use Rattle.pack_read.specs.Reads.{Reads, OneMore}
use Rattle.pack_reader.specs.declared.taken.Fault.{Fault}
use Rattle.pack_reader.specs.declared.taken.Fault.TheVariants.{Bad, Over}

-- ahead of the record at `at`: the tables are of the records before it, and have room for another of any kind
pub record Reading (bytes work : List ℕ) (c : Catalog) (at : ℕ) : Type 0 where
  pub cataloged : Cataloged bytes work c
  pub few : (k : ℕ) → k < 9 → 7 * length (records_of work c k) ≤ at
  pub cap : c.cap ≡ length bytes / 7 + 1
  pub short : length bytes < 4294967296

-- a record at `at` whose body this is
pub record Whole (bytes body : List ℕ) (at : ℕ) : Type 0 where
  pub long : le 4 bytes at ≡ length body
  pub inside : at + 6 + length body ≤ length bytes
  pub body_is : body ≡ part (at + 6) (length body) bytes

-- behind it
abbrev pub behind : ℕ → List ℕ → ℕ
behind at body = at + 6 + length body

-- the body by the record's place, and its key
pub body-at : (bytes body : List ℕ) (at from : ℕ) → Whole bytes body at → body_at bytes (record { at = at; from = from }) ≡ body
unfolding body_at
body-at bytes body at from W = ap (λ (n : ℕ). part (at + 6) n bytes) W.long ∙ sym W.body_is

pub key-at : (bytes body : List ℕ) (at k : ℕ) → Whole bytes body at → k ≤ length body → key_at bytes (record { at = at; from = at + 6 + k }) ≡ drop k body
unfolding key_at end_of
key-at bytes body at k W h =
    let e : at + 6 + le 4 bytes at - (at + 6 + k) ≡ length body - k = omega (arith, W.long) in
    rw e
    (part_is (at + 6 + k) (length body - k) bytes (drop k body) (omega (arith, W.inside)) (length-drop k body)
    (λ i l. cell i (omega arith)))
  where
    cell : (i : ℕ) → k + i < length body → get_or bytes (at + 6 + k + i) 0 ≡ get_or (drop k body) i 0
    cell i l =
        let e : at + 6 + k + i ≡ at + 6 + (k + i) = omega arith in
        ap (λ (j : ℕ). get_or bytes j 0) e ∙ sym (part_at (at + 6) (length body) bytes (k + i) l) ∙ ap (λ (b : List ℕ). get_or b (k + i) 0) (sym W.body_is) ∙ sym (get_or-drop k body i 0)

-- a record of kind k was taken up: it is behind the others of its kind, nothing else has changed, and the reader is ahead of the next one
pub record TakenUp (bytes work work' : List ℕ) (c : Catalog) (k end : ℕ) (take : Pack → Checked Pack) : Type 0 where
  pub reading : Reading bytes work' c end
  pub outside : Beside work work' c
  pub place : Place
  pub more : OneMore (records_of work c) (records_of work' c) k place
  pub says : (P : Pack) → Reads bytes (records_of work c) P → (Q : Pack) × (take P ≡ good Q) × Reads bytes (records_of work' c) Q

-- what taking up a record of kind k answers, if `take` is the definition's test of it
abbrev pub Takes : List ℕ → List ℕ → List ℕ → Catalog → ℕ → ℕ → (Pack → Checked Pack) → Result (Unit {0}) Fault → Type 0
Takes bytes work work' c k end take (Ok tt) = TakenUp bytes work work' c k end take
Takes bytes work work' c k end take (Err Bad) = (P : Pack) → Reads bytes (records_of work c) P → take P ≡ bad
Takes bytes work work' c k end take (Err Over) = (P : Pack) → Reads bytes (records_of work c) P → take P ≡ over

-- a record with at least a byte of body can be entered, if of a kind with a limit there are few
pub may_enter : (bytes work body : List ℕ) (c : Catalog) (at k n : ℕ) → Reading bytes work c at → Whole bytes body at → 0 < length body → n ≤ length body → k < 9 → (k < 3 → length (records_of work c k) < 4097) → EnteringIn bytes work c k (record { at = at; from = at + 6 + n })
may_enter bytes work body c at k n R W some hi h few = record {
  cataloged = R.cataloged;
  kind = h;
  framed = unfold end_of in record { starts = omega arith; ends = omega (arith, W.long); whole = omega (arith, W.long, W.inside) };
  room = cap_room c k (length (records_of work c k)) (omega (arith, R.few k h, R.cap, W.inside)) few;
  short = R.short;
}

-- a record more leaves the reader ahead of the next one
pub read_on : (bytes work work' : List ℕ) (c : Catalog) (at end k : ℕ) (p : Place) → Reading bytes work c at → at + 7 ≤ end → More bytes work work' c k p → Reading bytes work' c end
read_on bytes work work' c at end k p R some M = record {
  cataloged = M.cataloged;
  few = λ j h. few_at j h (ℕ_discrete j k);
  cap = R.cap;
  short = R.short;
}
  where
    few_at : (j : ℕ) → j < 9 → Dec (j ≡ k) → 7 * length (records_of work' c j) ≤ end
    few_at j h (yes e) =
        let l : length (records_of work' c j) ≡ length (records_of work c j) + 1 =
        ap (λ (i : ℕ). length (records_of work' c i)) e ∙ ap length M.more ∙ length-append (records_of work c k) (p ∷ []) ∙ ap (λ (i : ℕ). length (records_of work c i) + 1) (sym e) in
        omega (arith, R.few j h)
    few_at j h (no d) =
        let l : length (records_of work' c j) ≡ length (records_of work c j) = ap length (M.others j h d) in
        omega (arith, R.few j h)

pub one_more : (bytes work work' : List ℕ) (c : Catalog) (k : ℕ) (p : Place) → More bytes work work' c k p → OneMore (records_of work c) (records_of work' c) k p
one_more bytes work work' c k p M = record { more = M.more; same = M.others }

-- a record that was put behind the others of its kind
pub pushed-takes : (bytes work work' : List ℕ) (c : Catalog) (at end k : ℕ) (p : Place) (take : Pack → Checked Pack) (make : Pack → Pack) → Reading bytes work c at → at + 7 ≤ end
    → ((P : Pack) → Reads bytes (records_of work c) P → take P ≡ good (make P))
    → ((P : Pack) → Reads bytes (records_of work c) P → OneMore (records_of work c) (records_of work' c) k p → Reads bytes (records_of work' c) (make P))
    → More bytes work work' c k p → Takes bytes work work' c k end take (Ok tt)
pushed-takes bytes work work' c at end k p take make R some goes reads M =
    let m = one_more bytes work work' c k p M in
    record { reading = read_on bytes work work' c at end k p R some M; outside = M.outside; place = p; more = m; says = λ P r. (make P, goes P r, reads P r m) }

-- what `enter` answers decides: a new key is good, an old one bad
pub entered_takes : (bytes work work' : List ℕ) (c : Catalog) (at end k : ℕ) (p : Place) (take : Pack → Checked Pack) (make : Pack → Pack) → Reading bytes work c at → at + 7 ≤ end
    → ((P : Pack) → Reads bytes (records_of work c) P → (FindsIn bytes (records_of work c k) (key_at bytes p) → ⊥) → take P ≡ good (make P))
    → ((P : Pack) → Reads bytes (records_of work c) P → OneMore (records_of work c) (records_of work' c) k p → Reads bytes (records_of work' c) (make P))
    → EntersIn bytes work work' c k p New → Takes bytes work work' c k end take (Ok tt)
entered_takes bytes work work' c at end k p take make R some goes reads E =
    pushed-takes bytes work work' c at end k p take make R some (λ P r. goes P r E.0) reads E.1

pub refused-takes : (bytes work work' : List ℕ) (c : Catalog) (end k : ℕ) (p : Place) (take : Pack → Checked Pack)
    → ((P : Pack) → Reads bytes (records_of work c) P → FindsIn bytes (records_of work c k) (key_at bytes p) → take P ≡ bad)
    → EntersIn bytes work work' c k p Old → Takes bytes work work' c k end take (Err Bad)
refused-takes bytes work work' c end k p take stops E P r = stops P r E.0

-- ---- a key that is there, or is not, among names that are the places' keys
pub record Names (bytes : List ℕ) (names : List (List ℕ)) (ps : List Place) : Type 0 where
  pub many : length names ≡ length ps
  pub each : (i : ℕ) → i < length ps → get_or names i [] ≡ key_at bytes (get_or ps i no_place)

pub names_there : (bytes : List ℕ) (names : List (List ℕ)) (ps : List Place) (key : List ℕ) → Names bytes names ps → FindsIn bytes ps key → any (same key) names ≡ true
names_there bytes names ps key N F = names_any key names F.0 (omega (arith, N.many, F.1)) (N.each F.0 F.1 ∙ F.2)

pub names_not_there : (bytes : List ℕ) (names : List (List ℕ)) (ps : List Place) (key : List ℕ) → Names bytes names ps → (FindsIn bytes ps key → ⊥) → any (same key) names ≡ false
names_not_there bytes names ps key N F = names_none key names (λ i h e. let l : i < length ps = omega (arith, N.many) in F (i, l, sym (N.each i l) ∙ e))

-- the kinds that have keys, and those that have none
pub sorts-keyed : keyed_kind 0 ≡ true
unfolding ◌and◌
sorts-keyed = refl

pub symbols-keyed : keyed_kind 1 ≡ true
unfolding ◌and◌
symbols-keyed = refl

pub rules-keyed : keyed_kind 2 ≡ true
unfolding ◌and◌
rules-keyed = refl

pub nodes-keyed : keyed_kind 3 ≡ true
unfolding ◌and◌
nodes-keyed = refl

pub steps_unkeyed : keyed_kind 4 ≡ false
unfolding ◌and◌
steps_unkeyed = refl

pub goals_keyed : keyed_kind 5 ≡ true
unfolding ◌and◌
goals_keyed = refl

pub results_keyed : keyed_kind 6 ≡ true
unfolding ◌and◌
results_keyed = refl

pub cuts_unkeyed : keyed_kind 7 ≡ false
unfolding ◌and◌
cuts_unkeyed = refl

pub abstracts_unkeyed : keyed_kind 8 ≡ false
unfolding ◌and◌
abstracts_unkeyed = refl
