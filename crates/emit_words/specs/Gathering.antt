-- The arguments of a key one by one: the first without a word, and the words of all.
use Rattle.std.specs.Option.{is_some, unwrap_or}
use Rattle.std.specs.Prelude.{Option, Some, None, true, false}
use Rattle.std.specs.Prelude.{◌≡◌, refl, List, [], ◌∷◌, ℕ, zero, suc, ◌+◌, ◌-◌, ◌≤◌, ◌<◌, length, get_or, drop, set}
use Rattle.std.proofs.Common.{sym, ap, ◌∙◌, arith, length-drop, get_or-set_same, get_or-set_other}
use Rattle.std.proofs.Math.Option.{none, some}
use Rattle.std.proofs.Math.Decide.{ℕ_discrete}
use Rattle.definition.specs.Test.{never}
use Rattle.emission.specs.Words.{word_of}
use Rattle.emit_lines.specs.Words.{word_in}
use Rattle.emit_state.specs.declared.places.Places.{Places}
use Rattle.emit_state.specs.declared.standing.Standing.{Standing}
use Rattle.emit_words.specs.First.{Worded}
use Rattle.emit_words.specs.Spelling.{InEach, spelled, Spelled, Numbers, Lacked, Gathered}

-- an argument of a key
argument_at : (key : List ℕ) (k : ℕ) → get_or (drop 1 key) k 0 ≡ get_or key (suc k) 0
argument_at [] zero = refl
argument_at [] (suc k) = refl
argument_at (x ∷ xs) k = refl

module _ (work words : List ℕ) (l : Places) (m : Standing) (key : List ℕ) where
  -- those ahead of i have words
  abbrev pub Passed : ℕ → Type 0
  Passed i = InEach work words l m (λ w e. Worded e (drop 1 key) (i - 1))

  -- none is ahead of the first
  pub passed_none : (i : ℕ) → i ≡ 1 → Passed i
  passed_none i z pack proof w e R k h = absurd (omega arith)

  module _ (i : ℕ) (low : 1 ≤ i) where
    -- the i-th word of a key is the argument ahead of i
    here : (k : ℕ) → k ≡ i - 1 → get_or (drop 1 key) k 0 ≡ get_or key i 0
    here k z = argument_at key k ∙ (let q : suc k ≡ i = omega arith in ap (λ (n : ℕ). get_or key n 0) q)

    module _ (P : Passed i) (r : Option ℕ) (T : Spelled work words l m (get_or key i 0) r) where
      -- one more has a word
      pub passed_more : (x : ℕ) → r ≡ Some x → Passed (i + 1)
      passed_more x q pack proof w e R k h = elim (ℕ_discrete k (i - 1)) [
        | yes z ↦ (word_in x, ap (word_of e) (here k z) ∙ sym (T pack proof w e R) ∙ ap spelled q)
        | no z ↦ P pack proof w e R k (omega arith)
      ]

      -- or it is the first that has none
      pub passed_found : i < length key → r ≡ None → Lacked work words l m (drop 1 key) (Some (get_or key i 0))
      passed_found h q pack proof w e R = (i - 1, (let z = length-drop 1 key in omega arith), here (i - 1) refl, P pack proof w e R, sym (T pack proof w e R) ∙ ap spelled q)

    -- all have words
    pub passed_all : length key ≤ i → Passed i → Lacked work words l m (drop 1 key) None
    passed_all h P pack proof w e R k z = P pack proof w e R k (let q = length-drop 1 key in omega arith)

    -- one number more
    pub gathered_more : (xs : List ℕ) (x : ℕ) → Gathered work words l m (drop 1 key) xs (i - 1) → Numbers work words l m (get_or key i 0) x → i < length key → i - 1 < length xs
        → Gathered work words l m (drop 1 key) (set xs (i - 1) x) (i + 1 - 1)
    gathered_more xs x G T h room pack proof w e R all k z = elim (ℕ_discrete k (i - 1)) [
      | yes q ↦
          let v = all k (let y = length-drop 1 key in omega arith) in
          let t : word_of e (get_or key i 0) ≡ some (word_in x) = T pack proof w e R v.0 (ap (word_of e) (sym (here k q)) ∙ v.1) in
          ap (word_of e) (here k q) ∙ t ∙ sym (ap (λ (n : ℕ). some (word_in (get_or (set xs (i - 1) x) n 0))) q ∙ ap (λ (n : ℕ). some (word_in n)) (get_or-set_same xs (i - 1) x 0 room))
      | no q ↦ G pack proof w e R all k (omega arith) ∙ sym (ap (λ (n : ℕ). some (word_in n)) (get_or-set_other xs (i - 1) k x 0 q))
    ]

  -- no number yet
  pub gathered_none : (xs : List ℕ) (n : ℕ) → n ≡ 0 → Gathered work words l m (drop 1 key) xs n
  gathered_none xs n z pack proof w e R all k h = absurd (omega arith)

  -- all numbers
  pub gathered_all : (xs : List ℕ) (i : ℕ) → 1 ≤ i → length key ≤ i → Gathered work words l m (drop 1 key) xs (i - 1) → Gathered work words l m (drop 1 key) xs (length (drop 1 key))
  gathered_all xs i low h G pack proof w e R all k z = G pack proof w e R all k (let q = length-drop 1 key in omega arith)

-- ---- the number of a word
module _ (work words : List ℕ) (l : Places) (m : Standing) (p : ℕ) (r : Option ℕ) (T : Spelled work words l m p r) where
  -- it has one
  pub number_is : (x : ℕ) → r ≡ Some x → Numbers work words l m p x
  number_is x q pack proof w e R v z = sym (T pack proof w e R) ∙ ap spelled q

  -- it has none
  pub number_none : r ≡ None → (x : ℕ) → Numbers work words l m p x
  number_none q x pack proof w e R v z = never (let y : none ≡ some v = sym (ap spelled q) ∙ T pack proof w e R ∙ z in cc)

-- the number of whatever word it has
pub number_or : (work words : List ℕ) (l : Places) (m : Standing) (p : ℕ) (r : Option ℕ) → Spelled work words l m p r → Numbers work words l m p (unwrap_or r 0)
number_or work words l m p (Some x) T = number_is work words l m p (Some x) T x refl
number_or work words l m p None T = number_none work words l m p None T refl 0

-- a word that is there
pub some_word : (r : Option ℕ) → is_some r ≡ true → (x : ℕ) × (r ≡ Some x)
some_word (Some x) h = (x, refl)
some_word None h = never (cc)

-- or isn't
pub no_word : (r : Option ℕ) → is_some r ≡ false → r ≡ None
no_word (Some x) h = never (cc)
no_word None h = refl
