-- What `cert_check` answers, for every pack and every length of work.
use Rattle.std.specs.Prelude.{List, [], ℕ, length}
use Rattle.std.proofs.Math.Option.{Option, none, some}
use Rattle.definition.specs.Frame.{fine, refuse}
use Rattle.definition.specs.Parse.{parse}
use Rattle.definition.specs.Answer.{answer, Lent, lengths, padded}
use Rattle.definition.specs.Verdict.{verdict}
use Rattle.definition.specs.declared.Refusal.{Refusal}
use Rattle.definition.specs.declared.Answer.{Answer}

-- check is lent the pack and work
abbrev pub check_lent : ℕ → ℕ → Lent
check_lent pack work = record { pack = pack; class = 0; pattern = 0; graph = 0; work = work; text = 0; goals = 0 }

-- "Order": lengths, work, the pack's first bad record, then steps, then goals
unfoldable pub check_refusal : List ℕ → ℕ → Option Refusal
unfolding lengths parse verdict
check_refusal pack work =
    elim (lengths (check_lent (length pack) work)) [
      | some r ↦ some r
      | none ↦ elim (parse pack) [ refuse r ↦ some r | fine P ↦ verdict P ]
    ]

-- what the call returns, and what it leaves in work: zeros, on success too
pub record CheckLeft : Type 0 where
  pub returned : Answer
  pub work : List ℕ

unfoldable pub cert_check : List ℕ → ℕ → CheckLeft
unfolding answer check_refusal padded
cert_check pack work = record { returned = answer (check_refusal pack work); work = padded work [] }
