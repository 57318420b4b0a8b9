-- `match_rule` meets its contract.
use mathlib.Core.List.{[]}
use Prim.Native.Nat.{◌<◌}
use native.Mathlib.Omega.{arith}
use lib.ListN.{length}
use Rattle.pack_read.specs.Held.{readable}
use Rattle.emit_match.specs.Places.{stays_then, given_reads, given_on}
use Rattle.emit_match.specs.Begins.{begun_partly, begun_answers}
use Rattle.emit_match.proofs.rule.match_rule.Goals as goal

pub rule_vars-vars-requires : goal.rule_vars-vars-requires
rule_vars-vars-requires c = let p = c.requires in (readable _ _ _ p.0.held, omega (arith, p.1, p.0.held.reads.rules.many))

pub conclusion_from-from-requires : goal.conclusion_from-from-requires
conclusion_from-from-requires c = let p = c.requires in (p.0.held, p.1, c.rule_vars-vars.ensures p.0.held.pack p.0.held.reads)

pub begin-top-requires : goal.begin-top-requires
begin-top-requires c = c.requires.0.laid

pub match_words-requires : goal.match_words-requires
match_words-requires c =
    let p = c.requires in
    let G = p.0 in
    let H = G.held in
    let v = c.rule_vars-vars.ensures H.pack H.reads in
    let i = c.conclusion_from-from.ensures H.pack H.reads H.proper v in
    let B = c.begin-top.ensures in
    (given_on _ _ _ _ G _ B.stays, [], p.1, v, begun_partly H.pack H.proper _ G.sorted _ _ p.1 _ i _ p.2 _ _ _ B)

pub returns : goal.returns
returns c =
    let p = c.requires in
    let G = p.0 in
    let B = c.begin-top.ensures in record {
      matched = λ P R Q S.
          let l : c.args.r < length P.rules = omega (arith, p.1, G.held.reads.rules.many, R.rules.many) in
          let i = c.conclusion_from-from.ensures P R Q (c.rule_vars-vars.ensures P R) in
          begun_answers P Q _ S _ _ l _ i _ p.2 _ _ _ B c.match_words.new.work c.match_words.result (c.match_words.ensures.matched P (given_reads _ _ _ _ G _ B.stays P R) Q S l [] (begun_partly P Q _ S _ _ l _ i _ p.2 _ _ _ B));
      frame = stays_then _ _ _ _ B.stays c.match_words.ensures.frame;
    }
