-- Marks, a word a step: which steps are wanted, and, gone over from the last step down, which are needed.
use Rattle.std.specs.Prelude.{◌≡◌, Bool, eqb, length, set}
use Rattle.std.proofs.Math.Path.{refl, sym, ap}
use Rattle.std.proofs.Common.{◌∙◌, arith, length-set, get_or-set_same, get_or-set_other}
use Rattle.std.proofs.Math.Bool.{true, false}
use mathlib.Core.List.{List, [], ◌∷◌, ◌++◌, map}
use Prim.Native.Nat.{ℕ, zero, suc, ◌≤◌, ◌<◌}
use borrow.Author.Tests.{eqb-true, eqb-false, eq-eqb, ne_eqb}
use Rattle.std.proofs.Math.ListN.{get_or}
use Rattle.definition.specs.Test.{is, see, never, tests, any}
use Rattle.definition.specs.Pack.{Pack, Result}
use Rattle.definition.specs.Good.{Good}
use Rattle.definition.specs.Keys.{first_of, needs, needed_below, needed}
use Rattle.theory.specs.Keys.Needed.{Among, among_here, among_left, among_right, needed-below}
use Rattle.theory.specs.Classes.Steps.{needs-before}

-- the word of an answer
abbrev pub bit : Bool → ℕ
bit true = 1
bit false = 0

-- the word 0 is of no
pub bit_no : (b : Bool) → bit b ≡ 0 → b ≡ false
bit_no true e = absurd (omega arith)
bit_no false e = refl

-- any other is of yes
pub bit_yes : (b : Bool) → (bit b ≡ 0 → ⊥) → b ≡ true
bit_yes true d = refl
bit_yes false d = absurd (d refl)

-- the first n words mark the steps that are among these
pub record Marked (n : ℕ) (marks wanted : List ℕ) : Type 0 where
  pub mark : (s : ℕ) → s < n → get_or marks s 0 ≡ bit (any (eqb s) wanted)

-- marks for all of these
unfoldable pub mark_all : List ℕ → List ℕ → List ℕ
mark_all marks [] = marks
mark_all marks (f ∷ fs) = mark_all (set marks f 1) fs

-- what a marked step needs is marked
unfoldable pub mark_step : Pack → ℕ → List ℕ → List ℕ
unfolding mark_all needs
mark_step P s marks = elim (eqb (get_or marks s 0) 0) [ true ↦ marks | false ↦ mark_all marks (needs P s) ]

-- from step n down
unfoldable pub mark_below : ℕ → Pack → List ℕ → List ℕ
unfolding mark_step
mark_below zero P marks = marks
mark_below (suc s) P marks = mark_below s P (mark_step P s marks)

-- the first steps of the results' steps
unfoldable pub result_steps : Pack → List ℕ
unfolding first_of
result_steps P = map (λ (r : Result). first_of P r.step) P.results

-- ---- one list of marks
-- no more words, and no fewer
pub length-all : (marks fs : List ℕ) → length (mark_all marks fs) ≡ length marks
unfolding mark_all
length-all marks [] = refl
length-all marks (f ∷ fs) = length-all (set marks f 1) fs ∙ length-set marks f 1

-- a step that is not among them keeps its word
pub all_out : (marks fs : List ℕ) (s : ℕ) → any (eqb s) fs ≡ false → get_or (mark_all marks fs) s 0 ≡ get_or marks s 0
unfolding mark_all any
all_out marks [] s o = refl
all_out marks (f ∷ fs) s o = elim (see (eqb s f)) [
  | is true q ↦ never (let z : true ≡ false = rw q at o in cc)
  | is false q ↦ all_out (set marks f 1) fs s (rw q at o) ∙ get_or-set_other marks f s 1 0 (eqb-false s f q)
]

-- one that is is marked
all_in : (marks fs : List ℕ) (s : ℕ) → s < length marks → Among s fs → get_or (mark_all marks fs) s 0 ≡ 1
unfolding mark_all any
all_in marks [] s h a = never (cc)
all_in marks (f ∷ fs) s h a = elim (see (any (eqb s) fs)) [
  | is true p ↦ all_in (set marks f 1) fs s (omega (arith, length-set marks f 1)) p
  | is false p ↦ elim (see (eqb s f)) [
    | is true q ↦
        let e = eqb-true s f q in
        all_out (set marks f 1) fs s p ∙ ap (λ (i : ℕ). get_or (set marks f 1) i 0) e ∙ get_or-set_same marks f 1 0 (omega (arith, e))
    | is false q ↦ never (let z : false ≡ true = rw (q, p) at a in cc)
  ]
]

-- among the second list, if not among the first
any-right : (s : ℕ) (fs ws : List ℕ) → any (eqb s) fs ≡ false → any (eqb s) (fs ++ ws) ≡ any (eqb s) ws
unfolding any
any-right s [] ws o = refl
any-right s (f ∷ fs) ws o = elim (see (eqb s f)) [
  | is true q ↦ never (let z : true ≡ false = rw q at o in cc)
  | is false q ↦ rw q (any-right s fs ws (rw q at o))
]

-- these are wanted too
pub marked_all : (n : ℕ) (marks fs wanted : List ℕ) → n ≤ length marks → Marked n marks wanted → Marked n (mark_all marks fs) (fs ++ wanted)
marked_all n marks fs wanted h M = record {
  mark = λ s l. elim (see (any (eqb s) fs)) [
    | is true p ↦ all_in marks fs s (omega arith) p ∙ sym (ap bit (among_left s fs wanted p))
    | is false p ↦ all_out marks fs s p ∙ M.mark s l ∙ sym (ap bit (any-right s fs wanted p))
  ];
}

-- no step is wanted yet
pub marked-none : (n : ℕ) (marks : List ℕ) → ((s : ℕ) → s < n → get_or marks s 0 ≡ 0) → Marked n marks []
unfolding any
marked-none n marks z = record { mark = z }

-- ---- from the last step down
module _ (P : Pack) (G : Good P) where
  -- no more words, and no fewer
  pub length-step : (s : ℕ) (marks : List ℕ) → length (mark_step P s marks) ≡ length marks
  unfolding mark_step
  length-step s marks = elim (see (eqb (get_or marks s 0) 0)) [ is true e ↦ rw (e, mark_step) | is false e ↦ rw (e, mark_step) (length-all marks (needs P s)) ]

  -- the same from step n down
  pub length-below : (n : ℕ) (marks : List ℕ) → length (mark_below n P marks) ≡ length marks
  unfolding mark_below
  length-below zero marks = refl
  length-below (suc s) marks = length-below s (mark_step P s marks) ∙ length-step s marks

  -- a step does not need itself, nor a later one
  needs-not : (s t : ℕ) → s ≤ t → any (eqb t) (needs P s) ≡ false
  needs-not s t h = elim (see (any (eqb t) (needs P s))) [ is true p ↦ absurd (let l = needs-before P G s t p in omega arith) | is false p ↦ p ]

  -- so its word stays, and those of later steps
  step_out : (s : ℕ) (marks : List ℕ) (t : ℕ) → s ≤ t → get_or (mark_step P s marks) t 0 ≡ get_or marks t 0
  unfolding mark_step
  step_out s marks t h = elim (see (eqb (get_or marks s 0) 0)) [ is true e ↦ rw (e, mark_step) | is false e ↦ rw (e, mark_step) (all_out marks (needs P s) t (needs-not s t h)) ]

  -- the same from step n down
  pub below_out : (n : ℕ) (marks : List ℕ) (t : ℕ) → n ≤ t → get_or (mark_below n P marks) t 0 ≡ get_or marks t 0
  unfolding mark_below
  below_out zero marks t h = refl
  below_out (suc s) marks t h = below_out s (mark_step P s marks) t (omega arith) ∙ step_out s marks t (omega arith)

  -- one step behind others that are needed
  any_last : (s t : ℕ) (xs : List ℕ) → (t ≡ s → ⊥) → any (eqb t) (xs ++ (s ∷ [])) ≡ any (eqb t) xs
  unfolding any
  any_last s t [] d = rw (ne_eqb t s d)
  any_last s t (x ∷ xs) d = elim (see (eqb t x)) [ is true q ↦ rw q | is false q ↦ rw q (any_last s t xs d) ]

  -- a step that is not wanted
  below_unwanted : (s : ℕ) (marks wanted : List ℕ) → Marked (suc s) marks wanted → any (eqb s) wanted ≡ false → Marked s (mark_below s P marks) (needed_below s P wanted) → Marked (suc s) (mark_below (suc s) P marks) (needed_below (suc s) P wanted)
  unfolding mark_below mark_step needed_below
  below_unwanted s marks wanted M o B =
      let z : get_or marks s 0 ≡ 0 = M.mark s (omega arith) ∙ ap bit o in
      rw (eq-eqb (get_or marks s 0) 0 z, mark_step, o, needed_below)
      (record {
        mark = λ t l. elim (see (eqb t s)) [
          | is true q ↦
              let e = eqb-true t s q in
              let n : any (eqb t) (needed_below s P wanted) ≡ false = elim (see (any (eqb t) (needed_below s P wanted))) [ is true a ↦ absurd (let b = needed-below P s wanted t a in omega arith) | is false a ↦ a ] in
              below_out s marks t (omega arith) ∙ ap (λ (i : ℕ). get_or marks i 0) e ∙ z ∙ sym (ap bit n)
          | is false q ↦ B.mark t (omega tests)
        ];
      })

  -- one that is
  below-wanted : (s : ℕ) (marks wanted : List ℕ) → s < length marks → Marked (suc s) marks wanted → any (eqb s) wanted ≡ true
      → Marked s (mark_below s P (mark_all marks (needs P s))) (needed_below s P (needs P s ++ wanted)) → Marked (suc s) (mark_below (suc s) P marks) (needed_below (suc s) P wanted)
  unfolding mark_below mark_step needed_below
  below-wanted s marks wanted h M a B =
      let z : get_or marks s 0 ≡ 1 = M.mark s (omega arith) ∙ ap bit a in
      let xs = needed_below s P (needs P s ++ wanted) in
      rw (ne_eqb (get_or marks s 0) 0 (λ e. omega (arith, z, e)), mark_step, a, needed_below)
      (record {
        mark = λ t l. elim (see (eqb t s)) [
          | is true q ↦
              let e = eqb-true t s q in
              below_out s (mark_all marks (needs P s)) t (omega arith) ∙ all_out marks (needs P s) t (needs-not s t (omega arith)) ∙ ap (λ (i : ℕ). get_or marks i 0) e ∙ z
              ∙ sym (ap bit (ap (λ (i : ℕ). any (eqb i) (xs ++ (s ∷ []))) e ∙ among_right s xs (s ∷ []) (among_here s [])))
          | is false q ↦ B.mark t (omega tests) ∙ ap bit (sym (any_last s t xs (eqb-false t s q)))
        ];
      })

  -- what is needed below n, if the marks were of what is wanted
  pub marked-below : (n : ℕ) (marks wanted : List ℕ) → n ≤ length marks → Marked n marks wanted → Marked n (mark_below n P marks) (needed_below n P wanted)
  marked-below zero marks wanted h M = record { mark = λ s l. absurd (omega arith) }
  marked-below (suc s) marks wanted h M = elim (see (any (eqb s) wanted)) [
    | is true a ↦
        let N = marked_all (suc s) marks (needs P s) wanted h M in
        below-wanted s marks wanted (omega arith) M a (marked-below s (mark_all marks (needs P s)) (needs P s ++ wanted) (omega (arith, length-all marks (needs P s))) (record { mark = λ t l. N.mark t (omega arith) }))
    | is false o ↦ below_unwanted s marks wanted M o (marked-below s marks wanted (omega arith) (record { mark = λ t l. M.mark t (omega arith) }))
  ]

  -- all steps, if the results' steps are wanted
  pub marked-needed : (marks : List ℕ) → length P.steps ≤ length marks → Marked (length P.steps) marks (result_steps P) → Marked (length P.steps) (mark_below (length P.steps) P marks) (needed P)
  unfolding needed result_steps
  marked-needed marks h M = marked-below (length P.steps) marks _ h M
