-- `match_turn` meets its contract.
use native.Mathlib.Omega.{arith}
use Rattle.pack_read.specs.Held.{readable}
use Rattle.emit_match.specs.Places.{stays_none, stays_values, given_few}
use Rattle.emit_match.specs.Turns.{on_stack, all_done, there, a_pattern, variable-below, value-fits, value_differs, args-room, symbol_goes, symbol_stays}
use Rattle.emit_match.proofs.turn.match_turn.Goals as goal

pub pop-requires : goal.pop-requires
pop-requires c =
    let p = c.requires in
    let G = p.0 in
    let H = G.held in
    on_stack H.pack H.proper _ G.sorted _ _ p.2 _ G.laid _ _ p.1 p.4

pub rule_word-w-requires : goal.rule_word-w-requires
rule_word-w-requires c =
    let p = c.requires in
    let G = p.0 in
    let H = G.held in
    let took = c.in-Some.ensures in
    (readable _ _ _ H, omega (arith, p.2, H.reads.rules.many), p.3, there H.pack H.proper _ G.sorted _ _ p.2 _ G.laid _ _ p.1 p.4 _ _ took)

pub match_symbol-requires : goal.match_symbol-requires
match_symbol-requires c =
    let p = c.requires in
    let G = p.0 in
    let H = G.held in
    let took = c.in-Some.ensures in
    let word = c.rule_word-w.ensures H.pack H.reads (there H.pack H.proper _ G.sorted _ _ p.2 _ G.laid _ _ p.1 p.4 _ _ took) in
    record {
      order = G.order;
      fits = omega (arith, G.behind, G.laid.apart, G.laid.room);
      stored = G.stored;
      pattern = a_pattern H.pack H.proper _ G.sorted _ _ p.2 _ G.laid _ _ p.1 p.4 _ _ took;
      room = λ e. args-room H.pack H.proper _ G.sorted _ _ p.2 _ G.laid _ _ p.1 p.4 _ _ took _ word c.if-w-lt-VAR.true e;
    }

pub returns-then-w-lt-VAR : goal.returns-then-w-lt-VAR
returns-then-w-lt-VAR c =
    let p = c.requires in
    let G = p.0 in
    let H = G.held in
    let took = c.in-Some.ensures in
    let word = c.rule_word-w.ensures H.pack H.reads (there H.pack H.proper _ G.sorted _ _ p.2 _ G.laid _ _ p.1 p.4 _ _ took) in record { turn = λ P R Q S l bs M. symbol_goes P Q _ S _ _ l _ G.laid _ _ bs M _ _ took _ (c.rule_word-w.ensures P R (there P Q _ S _ _ l _ G.laid _ _ bs M _ _ took)) c.if-w-lt-VAR.true c.match_symbol.new.work c.match_symbol.result c.match_symbol.ensures; frame = symbol_stays H.pack H.proper _ G.sorted _ _ p.2 _ G.laid _ _ p.1 p.4 _ _ took _ word c.if-w-lt-VAR.true c.match_symbol.new.work c.match_symbol.result c.match_symbol.ensures }

pub bind-requires : goal.bind-requires
bind-requires c =
    let p = c.requires in
    let G = p.0 in
    let H = G.held in
    let took = c.in-Some.ensures in
    let word = c.rule_word-w.ensures H.pack H.reads (there H.pack H.proper _ G.sorted _ _ p.2 _ G.laid _ _ p.1 p.4 _ _ took) in (
      omega (arith, G.laid.apart, G.laid.room),
      variable-below H.pack H.proper _ G.sorted _ _ p.2 _ G.laid _ _ p.1 p.4 _ _ took _ word (omega (arith, c.if-w-lt-VAR.false)),
      omega (arith, a_pattern H.pack H.proper _ G.sorted _ _ p.2 _ G.laid _ _ p.1 p.4 _ _ took, given_few _ _ _ _ G),
    )

pub returns-then-bind : goal.returns-then-bind
returns-then-bind c =
    let a = c.args in
    let G = c.requires.0 in
    let took = c.in-Some.ensures in
    let O = c.bind.ensures.frame in record { turn = λ P R Q S l bs M. value-fits P Q _ S _ _ l _ G.laid _ _ bs M _ _ took _ (c.rule_word-w.ensures P R (there P Q _ S _ _ l _ G.laid _ _ bs M _ _ took)) (omega (arith, c.if-w-lt-VAR.false)) _ O (rw c.if-bind.true at c.bind.ensures.value); frame = stays_values a.m _ _ G.laid O }

pub returns : goal.returns
returns c =
    let a = c.args in
    let G = c.requires.0 in
    let took = c.in-Some.ensures in
    let O = c.bind.ensures.frame in record { turn = λ P R Q S l bs M. value_differs P Q _ S _ _ l _ G.laid _ _ bs M _ _ took _ (c.rule_word-w.ensures P R (there P Q _ S _ _ l _ G.laid _ _ bs M _ _ took)) (omega (arith, c.if-w-lt-VAR.false)) c.bind.new.work (rw c.if-bind.false at c.bind.ensures.value); frame = stays_values a.m _ _ G.laid O }

pub returns-in_default : goal.returns-in_default
returns-in_default c = record { turn = λ P R Q S l bs M. all_done P Q _ S _ _ l _ c.requires.0.laid _ _ bs M c.in_default.ensures; frame = stays_none c.args.m _ }
