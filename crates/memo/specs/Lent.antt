-- Memos in a part of work, lent as `&mut work[a..e]`: what they have for a number, and what is left of it by what was written elsewhere.
use Rattle.std.specs.Prelude.{◌≡◌, List, ℕ, ◌-◌, ◌≤◌, ◌<◌, length, get_or, set, take, drop, replicate}
use Rattle.std.proofs.Common.{sym, ap, ◌∙◌, arith, get_or-set_same, get_or-set_other}
use Rattle.std.proofs.Math.Option.{Option, none, some}
use Rattle.base.specs.Listed.{only_at}
use Rattle.base.specs.Outside.{Outside}
use Rattle.base.specs.Lent.{lent-ahead, lent-behind as behind, back, back_outside as outside}
use Rattle.base.specs.Part.{part, put, length_part}
use Rattle.memo.specs.Recall.{recall, Remembers}
use Rattle.memo.specs.declared.memo.Memo.{Memo}

-- what stands from a up to e, as it is lent
abbrev pub lent : ℕ → ℕ → List ℕ → List ℕ
lent a e xs = take (e - a) (drop a xs)

-- how long a part is
pub lent_long : (a e : ℕ) (xs : List ℕ) → a ≤ e → e ≤ length xs → length (lent a e xs) ≡ e - a
unfolding part
lent_long a e xs h k = length_part a (e - a) xs (omega arith)

-- a part ahead of what was written
pub lent-before : (a e : ℕ) (work work' : List ℕ) → Outside a e work work' → (b f : ℕ) → b ≤ f → f ≤ a → f ≤ length work → lent b f work' ≡ lent b f work
unfolding part
lent-before = lent-ahead

-- a part behind it
pub lent-behind : (a e : ℕ) (work work' : List ℕ) → Outside a e work work' → (b f : ℕ) → b ≤ f → e ≤ b → f ≤ length work → lent b f work' ≡ lent b f work
unfolding part
lent-behind = behind

-- a part that came back
module _ (a e : ℕ) (xs : List ℕ) (h : a ≤ e) (k : e ≤ length xs) (ys : List ℕ) (long : length ys ≡ length (lent a e xs)) where
  -- it stands there
  pub back-lent : lent a e (put a (e - a) ys xs) ≡ ys
  unfolding part
  back-lent = back a e xs ys h k long

  -- and nothing else has changed
  pub back_outside : Outside a e xs (put a (e - a) ys xs)
  unfolding part
  back_outside = outside a e xs ys h k long

-- ---- memos
-- what a memo from a up to e has for a number
unfoldable pub recall_at : ℕ → ℕ → List ℕ → Memo → ℕ → Option ℕ
recall_at a e work memo k = get_or (recall (lent a e work) memo) k none

-- v is put there for k
pub record Puts (work work' : List ℕ) (a e : ℕ) (memo : Memo) (k v : ℕ) : Type 0 where
  pub outside : Outside a e work work'
  pub remembers : Remembers (lent a e work') memo
  pub here : recall_at a e work' memo k ≡ some v
  pub others : (j : ℕ) → (k ≡ j → ⊥) → recall_at a e work' memo j ≡ recall_at a e work memo j

-- a memo there without entries
pub record Clears (work work' : List ℕ) (a e : ℕ) (memo : Memo) : Type 0 where
  pub outside : Outside a e work work'
  pub remembers : Remembers (lent a e work') memo
  pub empty : (k : ℕ) → recall_at a e work' memo k ≡ none

-- `insert` over the part does that
pub puts : (work : List ℕ) (a e : ℕ) (memo : Memo) (k v : ℕ) → a ≤ e → e ≤ length work → k < length (recall (lent a e work) memo) → (ys : List ℕ) → length ys ≡ length (lent a e work)
    → Remembers ys memo → recall ys memo ≡ set (recall (lent a e work) memo) k (some v) → Puts work (put a (e - a) ys work) a e memo k v
unfolding recall_at
puts work a e memo k v h m l ys long R s =
    let b = back-lent a e work h m ys long in
    let old = recall (lent a e work) memo in
    let new : recall (lent a e (put a (e - a) ys work)) memo ≡ set old k (some v) = ap (λ (zs : List ℕ). recall zs memo) b ∙ s in
    record {
      outside = back_outside a e work h m ys long;
      remembers = rw b R;
      here = ap (λ (os : List (Option ℕ)). get_or os k none) new ∙ get_or-set_same old k (some v) none l;
      others = λ j d. ap (λ (os : List (Option ℕ)). get_or os j none) new ∙ get_or-set_other old k j (some v) none (λ q. d (sym q));
    }

-- `clear` over the part does that
pub clears : (work : List ℕ) (a e : ℕ) (memo : Memo) (n : ℕ) → a ≤ e → e ≤ length work → (ys : List ℕ) → length ys ≡ length (lent a e work) → Remembers ys memo → recall ys memo ≡ replicate n none
    → Clears work (put a (e - a) ys work) a e memo
unfolding recall_at
clears work a e memo n h m ys long R s =
    let b = back-lent a e work h m ys long in
    record {
      outside = back_outside a e work h m ys long;
      remembers = rw b R;
      empty = λ k. ap (λ (zs : List ℕ). get_or (recall zs memo) k none) b ∙ ap (λ (os : List (Option ℕ)). get_or os k none) s ∙ only_at none n k;
    }

-- a memo ahead of what was written recalls the same
pub recall-before : (a e : ℕ) (work work' : List ℕ) → Outside a e work work' → (b f : ℕ) → b ≤ f → f ≤ a → f ≤ length work → (memo : Memo) (k : ℕ) → recall_at b f work' memo k ≡ recall_at b f work memo k
unfolding recall_at
recall-before a e work work' A b f h i m memo k = ap (λ (zs : List ℕ). get_or (recall zs memo) k none) (lent-before a e work work' A b f h i m)

-- and so does one behind it
pub recall-behind : (a e : ℕ) (work work' : List ℕ) → Outside a e work work' → (b f : ℕ) → b ≤ f → e ≤ b → f ≤ length work → (memo : Memo) (k : ℕ) → recall_at b f work' memo k ≡ recall_at b f work memo k
unfolding recall_at
recall-behind a e work work' A b f h i m memo k = ap (λ (zs : List ℕ). get_or (recall zs memo) k none) (lent-behind a e work work' A b f h i m)
