-- `build_turn` meets its contract.
use native.Mathlib.Omega.{arith}
use Rattle.base.specs.Outside.{outside_none}
use Rattle.emit_premises.specs.Amid.{room_there}
use Rattle.emit_premises.specs.Reading.{kept-stored}
use Rattle.emit_premises.specs.Closing.{done_goes, close_goes}
use Rattle.emit_premises.proofs.turn.build_turn.Goals as goal

pub read_turn-requires : goal.read_turn-requires
read_turn-requires c =
    let A = c.requires in
    (A.site.held, A.inner, A.outer, A.rule, A.variables, A.amid, A.long, A.site.room, c.if-full-b.true)

pub returns-then-full-b : goal.returns-then-full-b
returns-then-full-b c =
    let A = c.requires in
    let r = c.read_turn.ensures in
    record { turn = r.goes _; frame = (outside_none _ _ _, kept-stored _ _ c.args.b c.read_turn.result r.keeps A.site.stored) }

pub returns-then-base-eq0 : goal.returns-then-base-eq0
returns-then-base-eq0 c =
    let A = c.requires in
    record { turn = λ P R Q l bs M f fs N. done_goes P Q _ l _ A.long _ f c.if-full-b.false bs _ fs N c.if-base-eq0.true; frame = (outside_none _ _ _, A.site.stored) }

pub close_turn-requires : goal.close_turn-requires
close_turn-requires c =
    let A = c.requires in
    let H = A.site.held in
    let m = room_there H.pack H.proper _ A.rule _ A.long _ A.inner A.outer A.amid in
    record {
      order = A.site.order;
      fits = omega (arith, A.site.behind, A.site.room);
      stored = A.site.stored;
      ends = m.1;
      room = omega (arith, m.0);
    }

pub returns : goal.returns
returns c =
    let A = c.requires in
    let v = c.close_turn.ensures in
    record { turn = λ P R Q l bs M f fs N. close_goes P Q _ l _ A.long _ f c.if-full-b.false bs _ fs N c.if-base-eq0.false _ _ c.close_turn.result v.0; frame = v.1 }
