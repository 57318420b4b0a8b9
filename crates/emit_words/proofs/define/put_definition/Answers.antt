-- `put_definition` meets its contract.
use native.Mathlib.Omega.{arith}
use Prim.Native.Nat.{◌-◌}
use Rattle.emission.specs.Line.{def_line}
use Rattle.emit_words.specs.Putting.{puts_over}
use Rattle.emit_words.proofs.define.put_definition.Goals as goal

pub returns : goal.returns
returns c =
    let s = c.collect-said.result in
    puts_over _ _ _ _ c.put_def_line.new.text _ _ _ _ (λ h ws. def_line h ws) _ c.collect-said.new.numbers s c.collect-said.ensures (s.many - 0) (omega arith) c.put_def_line.ensures
