-- `begin` meets its contract.
use native.Mathlib.Omega.{arith}
use Rattle.emit_match.specs.Begins.{begun}
use Rattle.emit_match.proofs.rule.begin.Goals as goal

pub clear_values-requires : goal.clear_values-requires
clear_values-requires c = omega (arith, c.requires.apart, c.requires.room)

pub push-requires : goal.push-requires
push-requires c = omega (arith, c.requires.apart, c.requires.room, c.clear_values.ensures.frame.long)

pub returns : goal.returns
returns c = begun _ _ _ c.args.m c.args.p _ c.requires c.clear_values.ensures.empty c.clear_values.ensures.frame c.push.ensures.stack c.push.ensures.frame
