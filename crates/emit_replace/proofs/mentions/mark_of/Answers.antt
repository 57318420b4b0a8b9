-- `mark_of` meets its contract.
use mathlib.Core.Path.{sym, ap, ◌∙◌}
use native.Mathlib.Omega.{arith}
use native.Mathlib.Decide.{ℕ_discrete}
use Rattle.emit_replace.specs.Mentions.{bit, any_none, any_some}
use Rattle.emit_replace.specs.Reading.{args-room}
use Rattle.emit_replace.proofs.mentions.mark_of.Goals as goal

pub arguments-n-requires : goal.arguments-n-requires
arguments-n-requires c = let P = c.requires in (P.readable, P.inside)

pub loop-i-init : goal.loop-i-init
loop-i-init c = (omega arith, λ h l. absurd (omega arith))

pub argument-a-requires : goal.argument-a-requires
argument-a-requires c = let P = c.requires in (P.readable, P.inside, omega (arith, c.arguments-n.ensures, c.loop-i-test.true))

pub value_of-requires : goal.value_of-requires
value_of-requires c =
    let P = c.requires in
    let h = args-room _ _ _ _ _ P c.loop-i.i (omega (arith, c.arguments-n.ensures, c.loop-i-test.true)) in
    (P.readable.laid, omega (arith, c.argument-a.ensures))

pub returns-then-value_of-eq-YES : goal.returns-then-value_of-eq-YES
unfolding bit
returns-then-value_of-eq-YES c =
    let e = rw c.argument-a.ensures at c.value_of.ensures in
    ap bit (sym (any_some _ _ c.loop-i.i (omega (arith, c.arguments-n.ensures, c.loop-i-test.true)) (sym e ∙ omega arith)))

pub loop-i-preserved : goal.loop-i-preserved
loop-i-preserved c =
    let g = c.loop-i in
    let e = rw c.argument-a.ensures at c.value_of.ensures in (
      omega (arith, c.loop-i-test.true),
      λ h l z. elim (ℕ_discrete h g.i) [
        | yes q ↦ let f = rw q at z in absurd (omega (arith, e, c.if-value_of-eq-YES.false))
        | no n ↦ g.invariant.1 h (omega arith) z
      ],
    )

pub returns : goal.returns
unfolding bit
returns c = let g = c.loop-i in ap bit (sym (any_none _ _ (λ h l. g.invariant.1 h (omega (arith, c.arguments-n.ensures, c.loop-i-test.false)))))
