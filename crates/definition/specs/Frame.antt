-- Document 01, "The pack": the framing of records, whatever their kinds and bodies are.
use Rattle.std.specs.Prelude.{Bool, true, false, List, [], ◌∷◌, ℕ, zero, suc, ◌+◌, leb, length, take, drop}
use Rattle.definition.specs.Little.{le}
use Rattle.definition.specs.declared.Refusal.{Refusal}
use Rattle.definition.specs.declared.Refusal.TheVariants.{Form, Limit}

-- what reading a record gives: something good, or that the record is against its form, or over a limit
infixl 20 ◌>>=◌
pub data Checked (A : Type 0) : Type 0 where
  good : A → Checked A
  bad : Checked A
  over : Checked A

unfoldable pub ◌>>=◌ : {A B : Type 0} → Checked A → (A → Checked B) → Checked B
good a >>= f = f a
bad >>= f = bad
over >>= f = over

-- a test of form, and a test of a limit
unfoldable pub right : Bool → Checked (Unit {0})
right true = good tt
right false = bad

unfoldable pub within : Bool → Checked (Unit {0})
within true = good tt
within false = over

-- what reading a pack gives: what it says, or the first bad record's refusal
pub data Read (A : Type 0) : Type 0 where
  fine : A → Read A
  refuse : Refusal → Read A

-- a format's kinds: which there are, and which may stand behind which
pub record Kinds : Type 0 where
  pub known : ℕ → Bool
  pub follows : ℕ → ℕ → Bool

-- a record's kind and body
pub record Record : Type 0 where
  pub kind : ℕ
  pub body : List ℕ

-- the record at the front: "a 4-byte length of its body, a 2-byte kind, the body", not cut, of a known kind, in order
unfoldable pub record_of : Kinds → ℕ → List ℕ → Checked Record
record_of K last s = do
  _ ← right (leb 6 (length s))
  _ ← right (leb (6 + le 4 s 0) (length s))
  _ ← right (K.known (le 2 s 4))
  _ ← right (K.follows last (le 2 s 4))
  good (record { kind = le 2 s 4; body = take (le 4 s 0) (drop 6 s) })

-- the records of a pack one behind the other, each taken up by `step`; `skip` bytes still belong to the last one,
-- `at` is the offset of the first byte left
unfoldable pub records : {A : Type 0} → Kinds → (A → Record → Checked A) → List ℕ → ℕ → ℕ → ℕ → A → Read A
unfolding record_of
records K step [] skip at last a = fine a
records K step (x ∷ xs) (suc skip) at last a = records K step xs skip (suc at) last a
records K step (x ∷ xs) zero at last a =
    elim (record_of K last (x ∷ xs)) [
      | bad ↦ refuse (Form at)
      | over ↦ refuse (Limit at)
      | good r ↦
          elim (step a r) [
            | bad ↦ refuse (Form at)
            | over ↦ refuse (Limit at)
            | good b ↦ records K step xs (5 + length r.body) (suc at) r.kind b
          ]
    ]
