-- `read_turn` meets its contract.
use Rattle.std.proofs.Common.{◌-◌}
use native.Mathlib.Omega.{arith}
use mathlib.Core.Path.{ap}
use Rattle.pack_read.specs.Reads.{length_symbols}
use Rattle.pack_read.specs.Held.{readable}
use Rattle.emit_premises.specs.Amid.{word_there, room_there}
use Rattle.emit_premises.specs.Reading.{symbol-below, symbol_goes, variable-below, variable_goes, valued_keeps}
use Rattle.emit_premises.specs.declared.building.Building.{Building}
use Rattle.emit_premises.proofs.turn.read_turn.Goals as goal

pub rule_word-w-requires : goal.rule_word-w-requires
rule_word-w-requires c =
    let p = c.requires in
    let H = p.0 in
    (readable _ _ _ H, omega (arith, p.3, H.reads.rules.many), p.4, word_there H.pack H.proper _ p.3 _ p.6 _ p.1 p.2 p.5)

pub symbol_arity-arity-requires : goal.symbol_arity-arity-requires
symbol_arity-arity-requires c =
    let p = c.requires in
    let H = p.0 in
    let word = c.rule_word-w.ensures H.pack H.reads (word_there H.pack H.proper _ p.3 _ p.6 _ p.1 p.2 p.5) in
    (readable _ _ _ H, omega (arith, symbol-below H.pack H.proper _ p.3 _ p.6 _ _ word p.1 p.2 p.5 p.8 c.if-w-lt-VAR.true, length_symbols _ _ H.pack H.reads))

pub open-requires : goal.open-requires
open-requires c =
    let p = c.requires in
    let H = p.0 in
    let word = c.rule_word-w.ensures H.pack H.reads (word_there H.pack H.proper _ p.3 _ p.6 _ p.1 p.2 p.5) in
    let l = symbol-below H.pack H.proper _ p.3 _ p.6 _ _ word p.1 p.2 p.5 p.8 c.if-w-lt-VAR.true in
    let m = room_there H.pack H.proper _ p.3 _ p.6 _ p.1 p.2 p.5 in
    (m.0, omega (arith, m.1), omega (arith, m.0, p.6, (H.proper.good.symbols _ l).arity, c.symbol_arity-arity.ensures H.pack H.reads), omega (arith, m.2))

pub returns-then-w-lt-VAR : goal.returns-then-w-lt-VAR
returns-then-w-lt-VAR c =
    let p = c.requires in
    let s = c.«open».ensures in
    record {
      goes = λ words P R Q l bs M f fs N.
          rw (s.state, s.words) (symbol_goes P Q _ l _ p.6 _ _ (c.rule_word-w.ensures P R (word_there P Q _ l _ p.6 _ f fs N)) f fs N p.8 c.if-w-lt-VAR.true _ (c.symbol_arity-arity.ensures P R) bs words);
      keeps = ap (λ (x : Building). x.store) s.state;
    }

pub give_value-requires : goal.give_value-requires
give_value-requires c =
    let p = c.requires in
    let H = p.0 in
    let word = c.rule_word-w.ensures H.pack H.reads (word_there H.pack H.proper _ p.3 _ p.6 _ p.1 p.2 p.5) in
    let m = room_there H.pack H.proper _ p.3 _ p.6 _ p.1 p.2 p.5 in
    (p.7, variable-below H.pack H.proper _ p.3 _ p.6 _ _ word p.1 p.2 p.5 p.8 (omega (arith, c.if-w-lt-VAR.false)), omega (arith, m.0), omega (arith, m.2))

pub returns : goal.returns
returns c =
    let p = c.requires in
    let v = c.give_value.ensures in
    record {
      goes = λ words P R Q l bs M f fs N.
          variable_goes P Q _ l _ p.6 _ _ (c.rule_word-w.ensures P R (word_there P Q _ l _ p.6 _ f fs N)) f fs N p.8 (omega (arith, c.if-w-lt-VAR.false)) c.args.work.now c.args.at bs M words c.give_value.new.stack c.give_value.result v;
      keeps = valued_keeps c.args.work.now c.args.stack.now c.give_value.new.stack c.args.at c.args.b (c.rule_word-w.result - 2147483648) c.give_value.result v;
    }
