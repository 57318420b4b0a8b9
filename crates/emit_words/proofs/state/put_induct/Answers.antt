-- `put_induct` meets its contract.
use native.Mathlib.Omega.{arith}
use Prim.Native.Nat.{◌-◌}
use Rattle.emission.specs.Line.{induct_line}
use Rattle.emit_lines.specs.Cases.{cases_in}
use Rattle.emit_words.specs.Putting.{puts_over}
use Rattle.emit_words.proofs.state.put_induct.Goals as goal

pub returns : goal.returns
returns c =
    let s = c.collect-said.result in
    puts_over _ _ _ _ c.put_induct_line.new.text _ _ _ _ (λ h ws. induct_line (record { predicate = h; words = ws }) (cases_in c.args.cases.now)) _ c.collect-said.new.numbers s c.collect-said.ensures (s.many - 0) (omega arith) c.put_induct_line.ensures
