-- What reading says: the tests of a record that was taken, read off one by one, and what holds of all records together.
use Rattle.std.specs.Prelude.{◌≡◌, refl, Bool, true, false, List, [], ◌∷◌, ℕ, zero, suc, ◌+◌, ◌≤◌, ◌<◌, length, take, drop}
use Rattle.std.proofs.Common.{sym, ap, ◌∙◌, arith, leb-true}
use Rattle.definition.specs.Test.{is, see, never}
use Rattle.definition.specs.Little.{le}
use Rattle.definition.specs.declared.Refusal.TheVariants.{Form, Limit}
use Rattle.definition.specs.Frame.{Checked, good, bad, over, ◌>>=◌, right, within, fine, refuse, Kinds, Record, record_of, records}

pub good_eq : {A : Type 0} {a b : A} → good a ≡ good b → a ≡ b
good_eq e = cc

pub fine_eq : {A : Type 0} {a b : A} → fine a ≡ fine b → a ≡ b
fine_eq e = cc

-- a good result of two steps has a good first step
pub bind_good : {A B : Type 0} (m : Checked A) (f : A → Checked B) (b : B) → m >>= f ≡ good b → (a : A) × (m ≡ good a) × (f a ≡ good b)
unfolding ◌>>=◌
bind_good (good a) f b e = (a, refl, e)
bind_good bad f b e = never (cc)
bind_good over f b e = never (cc)

-- a test that passed, and the rest
pub right_then : {B : Type 0} (t : Bool) (f : Unit {0} → Checked B) (b : B) → right t >>= f ≡ good b → (t ≡ true) × (f tt ≡ good b)
unfolding ◌>>=◌ right
right_then true f b e = (refl, e)
right_then false f b e = never (cc)

pub within_then : {B : Type 0} (t : Bool) (f : Unit {0} → Checked B) (b : B) → within t >>= f ≡ good b → (t ≡ true) × (f tt ≡ good b)
unfolding ◌>>=◌ within
within_then true f b e = (refl, e)
within_then false f b e = never (cc)

-- what a record's header says
pub record Framed (K : Kinds) (last : ℕ) (s : List ℕ) (r : Record) : Type 0 where
  pub header : 6 ≤ length s
  pub whole : 6 + le 4 s 0 ≤ length s
  pub kind : r.kind ≡ le 2 s 4
  pub known : K.known r.kind ≡ true
  pub follows : K.follows last r.kind ≡ true
  pub body : r.body ≡ take (le 4 s 0) (drop 6 s)

pub framed : (K : Kinds) (last : ℕ) (s : List ℕ) (r : Record) → record_of K last s ≡ good r → Framed K last s r
unfolding record_of
framed K last s r e =
    let t1 = right_then _ _ _ e in
    let t2 = right_then _ _ _ t1.1 in
    let t3 = right_then _ _ _ t2.1 in
    let t4 = right_then _ _ _ t3.1 in
    let q = good_eq t4.1 in
    let k : le 2 s 4 ≡ r.kind = ap (λ (x : Record). x.kind) q in
    record { header = leb-true _ _ t1.0; whole = leb-true _ _ t2.0; kind = sym k; known = ap K.known (sym k) ∙ t3.0; follows = ap (K.follows last) (sym k) ∙ t4.0; body = ap (λ (x : Record). x.body) (sym q) }

-- what every record keeps holds at the end
pub records-keep : {A : Type 0} (K : Kinds) (step : A → Record → Checked A) (I : A → Type 0)
    → ((a : A) (r : Record) (b : A) → I a → step a r ≡ good b → I b)
    → (s : List ℕ) (skip at last : ℕ) (a b : A) → I a → records K step s skip at last a ≡ fine b → I b
unfolding records
records-keep K step I keep [] skip at last a b i e = rw (fine_eq e) at i
records-keep K step I keep (x ∷ xs) (suc skip) at last a b i e = records-keep K step I keep xs skip (suc at) last a b i e
records-keep K step I keep (x ∷ xs) zero at last a b i e = elim (see (record_of K last (x ∷ xs))) [
  | is bad p ↦ never (let q : refuse _ ≡ fine b = rw (p, records) at e in cc)
  | is over p ↦ never (let q : refuse _ ≡ fine b = rw (p, records) at e in cc)
  | is (good r) p ↦ elim (see (step a r)) [
    | is bad q ↦ never (let z : refuse _ ≡ fine b = rw (p, q, records) at e in cc)
    | is over q ↦ never (let z : refuse _ ≡ fine b = rw (p, q, records) at e in cc)
    | is (good c) q ↦ records-keep K step I keep xs (5 + length r.body) (suc at) r.kind c b (keep a r c i q) (rw (p, q, records) at e)
  ]
]

-- the bytes of the last record are passed over
pub records_skip : {A : Type 0} (K : Kinds) (step : A → Record → Checked A) (s : List ℕ) (skip at last : ℕ) (a : A)
    → records K step s skip at last a ≡ records K step (drop skip s) 0 (at + skip) last a
unfolding records
records_skip K step [] zero at last a = refl
records_skip K step [] (suc skip) at last a = refl
records_skip K step (x ∷ xs) zero at last a = let e : at + 0 ≡ at = omega arith in rw e
records_skip K step (x ∷ xs) (suc skip) at last a = let e : at + suc skip ≡ suc at + skip = omega arith in rw e (records_skip K step xs skip (suc at) last a)

-- one good record, and the others behind it
pub records-one : {A : Type 0} (K : Kinds) (step : A → Record → Checked A) (s : List ℕ) (at last : ℕ) (a : A) (r : Record) (b : A)
    → record_of K last s ≡ good r → step a r ≡ good b
    → records K step s 0 at last a ≡ records K step (drop (6 + length r.body) s) 0 (at + (6 + length r.body)) r.kind b
unfolding records
records-one K step [] at last a r b p q = let f = framed K last [] r p in absurd (omega (arith, f.header))
records-one K step (x ∷ xs) at last a r b p q =
    let n = 5 + length r.body in
    let e : suc at + n ≡ at + (6 + length r.body) = omega arith in
    let f : suc n ≡ 6 + length r.body = omega arith in
    rw (p, q, records) (records_skip K step xs n (suc at) r.kind b ∙ rw (e, ← f))

-- no byte is left
pub records-end : {A : Type 0} (K : Kinds) (step : A → Record → Checked A) (s : List ℕ) (at last : ℕ) (a : A) → length s ≡ 0 → records K step s 0 at last a ≡ fine a
unfolding records
records-end K step [] at last a e = refl
records-end K step (x ∷ xs) at last a e = absurd (omega arith)

-- bytes are left, and they are no record
pub records-cut : {A : Type 0} (K : Kinds) (step : A → Record → Checked A) (s : List ℕ) (at last : ℕ) (a : A) → 0 < length s → record_of K last s ≡ bad → records K step s 0 at last a ≡ refuse (Form at)
unfolding records
records-cut K step [] at last a l p = absurd (omega arith)
records-cut K step (x ∷ xs) at last a l p = rw (p, records)

-- a record against its form
pub records_bad : {A : Type 0} (K : Kinds) (step : A → Record → Checked A) (s : List ℕ) (at last : ℕ) (a : A) (r : Record) → record_of K last s ≡ good r → step a r ≡ bad → records K step s 0 at last a ≡ refuse (Form at)
unfolding records
records_bad K step [] at last a r p q = let f = framed K last [] r p in absurd (omega (arith, f.header))
records_bad K step (x ∷ xs) at last a r p q = rw (p, q, records)

-- a record over a limit
pub records-over : {A : Type 0} (K : Kinds) (step : A → Record → Checked A) (s : List ℕ) (at last : ℕ) (a : A) (r : Record) → record_of K last s ≡ good r → step a r ≡ over → records K step s 0 at last a ≡ refuse (Limit at)
unfolding records
records-over K step [] at last a r p q = let f = framed K last [] r p in absurd (omega (arith, f.header))
records-over K step (x ∷ xs) at last a r p q = rw (p, q, records)
