-- `first_open` meets its contract.
use mathlib.Core.Path.{sym, ap, ◌∙◌}
use Rattle.std.specs.Prelude.{not}
use native.Mathlib.Omega.{arith}
use Rattle.emit_replace.specs.Known.{known_more}
use Rattle.emit_replace.specs.Reading.{args_in, values_in, args-room, some_known, none_known}
use Rattle.emit_replace.proofs.walk.first_open.Goals as goal

pub arguments-n-requires : goal.arguments-n-requires
arguments-n-requires c = let P = c.requires in (P.readable, P.inside)

pub loop-i-init : goal.loop-i-init
loop-i-init c = (omega arith, λ h l. absurd (omega arith))

pub argument-a-requires : goal.argument-a-requires
argument-a-requires c = let P = c.requires in (P.readable, P.inside, omega (arith, c.arguments-n.ensures, c.loop-i-test.true))

pub look_up-requires : goal.look_up-requires
look_up-requires c =
    let P = c.requires in
    let h = args-room _ _ _ _ _ P c.loop-i.i (omega (arith, c.arguments-n.ensures, c.loop-i-test.true)) in
    (P.readable.laid, omega (arith, c.argument-a.ensures))

pub returns-then-is_none : goal.returns-then-is_none
returns-then-is_none c =
    let g = c.loop-i in
    record {
      at = g.i;
      inside = omega (arith, c.arguments-n.ensures, c.loop-i-test.true);
      is_it = sym c.argument-a.ensures;
      open_yet = sym c.look_up.ensures ∙ none_known _ (c.is_none.ensures ∙ ap not c.if-is_none.true);
      known = g.invariant.1;
    }

pub loop-i-preserved : goal.loop-i-preserved
loop-i-preserved c =
    let g = c.loop-i in
    let a = c.args in
    let v = some_known _ (c.is_none.ensures ∙ ap not c.if-is_none.false) in
    let e = rw c.argument-a.ensures at c.look_up.ensures in
    (omega (arith, c.loop-i-test.true), known_more (values_in a.work.now a.l a.memo) (args_in a.words.now a.st a.p) g.i _ g.invariant.1 (sym e ∙ v.1))

pub returns : goal.returns
returns c = let g = c.loop-i in λ i l. g.invariant.1 i (omega (arith, c.arguments-n.ensures, c.loop-i-test.false))
