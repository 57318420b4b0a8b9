-- `first_lacking` meets its contract.
use mathlib.Core.Path.{ap, ◌∙◌}
use Rattle.std.specs.Prelude.{not}
use native.Mathlib.Omega.{arith}
use Rattle.emit_words.specs.Gathering.{passed_none, passed_more, passed_found, passed_all, some_word, no_word}
use Rattle.emit_words.proofs.gather.first_lacking.Goals as goal

pub loop-i-init : goal.loop-i-init
loop-i-init c =
    (omega arith, passed_none _ _ _ _ c.args.key.now 1 (omega arith))

pub word_of-requires : goal.word_of-requires
word_of-requires c =
    let p = c.requires in
    let g = c.loop-i.invariant in
    record { pack = p.pack; proof = p.proof; world = p.world; state = p.state; ready = p.ready; there = p.there _ (omega (arith, g.0)) (omega arith) }

pub loop-i-preserved : goal.loop-i-preserved
loop-i-preserved c =
    let g = c.loop-i.invariant in
    let h = some_word _ (c.is_none.ensures ∙ ap not c.if-is_none.false) in
    (omega arith, passed_more _ _ _ _ c.args.key.now _ g.0 g.1 _ c.word_of.ensures _ h.1)

pub returns-then-is_none : goal.returns-then-is_none
returns-then-is_none c =
    let g = c.loop-i.invariant in
    passed_found _ _ _ _ c.args.key.now _ g.0 g.1 _ c.word_of.ensures (omega arith) (no_word _ (c.is_none.ensures ∙ ap not c.if-is_none.true))

pub returns : goal.returns
returns c =
    let g = c.loop-i.invariant in
    passed_all _ _ _ _ c.args.key.now _ g.0 (omega arith) g.1
