-- `intern` meets its contract.
use Rattle.emit_case.specs.Interning.{interns_as_to, interns_short_to}
use Rattle.emit_case.proofs.intern.intern.Goals as goal

pub intern-requires : goal.intern-requires
intern-requires c = rw c.index_end-to.ensures (c.requires.0.ready.holding.stored, c.requires.1)

pub returns : goal.returns
returns c =
    let i = c.intern in
    let F = rw c.in-Some.is at i.ensures in
    rw c.with_store.ensures (interns_as_to c.args.work.now c.args.words.now c.args.l c.args.m c.args.key.now i.new.index i.new.words c.index_end-to.result c.index_end-to.ensures c.requires.0 i.auto.index i.auto.words _ _ F)

pub returns-in_default : goal.returns-in_default
returns-in_default c =
    let i = c.intern in
    let F = rw c.in_default.is at i.ensures in
    interns_short_to c.args.work.now c.args.words.now c.args.l c.args.m c.args.key.now i.new.index i.new.words c.index_end-to.result c.index_end-to.ensures c.requires.0 i.auto.index i.auto.words F
