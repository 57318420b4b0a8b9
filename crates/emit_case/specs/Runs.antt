-- The parts of induction as runs of their own.
use Rattle.std.specs.Prelude.{List, [], ℕ, ◌-◌}
use Rattle.definition.specs.Verdict.{Bound}
use Rattle.definition.specs.Analysis.{pairing}
use Rattle.emission.specs.State.{Setting, Search, ◌>>=◌, give, interned, write_step}
use Rattle.emission.specs.Line.{hyp_line}
use Rattle.emission.specs.Words.{judgment}
use Rattle.emission.specs.Prove.{prove, chain}
use Rattle.emission.specs.Induct.{put_for_l, suppose, deepest}
use Rattle.emit_state.specs.Holding.{World}

-- a case's goal, under hypotheses
unfoldable pub goal_with : Setting → List Bound → ℕ → ℕ → Search ℕ
goal_with S hyps term j = put_for_l S term j >>= λ q. chain S (λ p. prove (deepest - 1) S hyps p) q

abbrev pub goal_run : World → ℕ → ℕ → Search ℕ
goal_run w term j = goal_with w.setting w.hyps term j

-- a judgment's hyp line
abbrev pub supposed : Setting → ℕ → Search ℕ
supposed S j = judgment S j >>= λ said. write_step S (hyp_line said)

-- one hypothesis
unfoldable pub suppose_one : Setting → ℕ → ℕ → Search Bound
suppose_one S v j = put_for_l S v j >>= λ h. judgment S h >>= λ said. write_step S (hyp_line said) >>= λ n. give (pairing h n)

-- the hypotheses, then the goal
unfoldable pub supposing_run : Setting → ℕ → ℕ → List ℕ → Search ℕ
supposing_run S term j rs = suppose S j rs [] >>= λ hyps. goal_with S hyps term j

-- a constructor's term, then these
unfoldable pub over_run : Setting → ℕ → List ℕ → ℕ → List ℕ → Search ℕ
over_run S c vs j rs = interned (record { head = c; args = vs }) >>= λ term. supposing_run S term j rs
