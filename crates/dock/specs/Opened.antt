-- A pack read into work, its verdict, and the step check's refusal by its parts.
use Rattle.std.specs.Prelude.{Result}
use Rattle.std.specs.Prelude.{◌≡◌, List, ℕ, length}
use Rattle.std.proofs.Common.{◌∙◌}
use Rattle.std.proofs.Math.Option.{Option, none, some}
use Rattle.definition.specs.Pack.{Pack}
use Rattle.definition.specs.Frame.{fine, refuse}
use Rattle.definition.specs.Parse.{parse}
use Rattle.definition.specs.Answer.{lengths}
use Rattle.definition.specs.Verdict.{verdict}
use Rattle.definition.specs.Check.{check_lent, check_refusal}
use Rattle.definition.specs.declared.Refusal.{Refusal}
use Rattle.pack_reader.specs.Parsed.{Represents}
use Rattle.dock_call.specs.Outcome.{refusal_of}

-- a pack was read into work
abbrev pub Opened : List ℕ → List ℕ → Type 0
Opened bytes work = (P : Pack) × (parse bytes ≡ fine P) × Represents bytes work P

-- its verdict
abbrev pub Judged : List ℕ → List ℕ → Result (Unit {0}) Refusal → Type 0
Judged bytes work r = (P : Pack) → parse bytes ≡ fine P → Represents bytes work P → refusal_of r ≡ verdict P

-- what reading and judging come to in lengths that pass
unfoldable pub judged : List ℕ → Option Refusal
unfolding parse verdict
judged bytes = elim (parse bytes) [ refuse r ↦ some r | fine P ↦ verdict P ]

module _ (bytes : List ℕ) where
  -- a bad record is refused
  pub bad_judged : (r : Refusal) → parse bytes ≡ refuse r → some r ≡ judged bytes
  unfolding judged
  bad_judged r e = rw (e, judged)

  -- what is read is judged
  pub read_judged : (P : Pack) (o : Option Refusal) → parse bytes ≡ fine P → o ≡ verdict P → o ≡ judged bytes
  unfolding judged
  read_judged P o f e = e ∙ rw (f, judged)

module _ (bytes : List ℕ) (work : ℕ) where
  -- what the lengths refuse is refused
  pub lengths-judged : (r : Refusal) → lengths (check_lent (length bytes) work) ≡ some r → some r ≡ check_refusal bytes work
  unfolding check_refusal
  lengths-judged r e = rw (e, check_refusal)

  -- lengths that pass leave it to what is read
  pub fit_judged : (o : Option Refusal) → lengths (check_lent (length bytes) work) ≡ none → o ≡ judged bytes → o ≡ check_refusal bytes work
  unfolding check_refusal judged
  fit_judged o l e = e ∙ rw (l, check_refusal)
