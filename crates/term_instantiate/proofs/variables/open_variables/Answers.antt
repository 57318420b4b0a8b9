-- `open_variables` meets its contract: with each turn one variable more is there.
use native.Mathlib.Omega.{arith}
use Rattle.base.specs.Part.{part}
use Rattle.pack_read.specs.Held.{readable}
use Rattle.term_instantiate.specs.Variables.{first-none, first-held, first_reads, first_more, first-full, first-all, none-held, none-room, none_shows, opens_on, opens_full}
use Rattle.term_instantiate.proofs.variables.open_variables.Goals as goal

pub loop-k-init : goal.loop-k-init
unfolding part
loop-k-init c = let A = c.requires in let N = c.new-g.ensures in first-none _ _ _ _ _ _ (none_shows _ _ _ _ _ _ A N.1 _ N.0)

pub rule_var-sort-requires : goal.rule_var-sort-requires
unfolding part
rule_var-sort-requires c =
    let A = c.requires in
    let N = c.new-g.ensures in
    let H = first-held _ _ _ _ _ (none-held _ _ _ _ _ _ A N.1) (none-room _ _ _ _ _ _ A N.1) _ _ _ _ c.loop-k.invariant in
    (readable _ _ _ H, omega (arith, A.rule, H.reads.rules.many), omega (arith, c.loop-k-test.true, A.many))

pub var-requires : goal.var-requires
unfolding part
var-requires c =
    let A = c.requires in
    let H = none-held _ _ _ _ _ _ A c.new-g.ensures.1 in
    (c.loop-k.invariant.shows H.pack H.reads A.many).0.laid

pub loop-k-preserved : goal.loop-k-preserved
unfolding part
loop-k-preserved c =
    let A = c.requires in
    let N = c.new-g.ensures in
    let H = none-held _ _ _ _ _ _ A N.1 in
    let R = none-room _ _ _ _ _ _ A N.1 in
    let F = c.loop-k.invariant in
    first_more _ _ _ _ _ H R _ _ _ _ F c.loop-k-test.true _ (λ P Q. c.rule_var-sort.ensures P (first_reads _ _ _ _ _ H R _ _ _ _ F P Q)) _ _ c.var.auto.cells _ _ c.in_ok-g.ensures

pub returns-in_err-g : goal.returns-in_err-g
unfolding part
returns-in_err-g c =
    let A = c.requires in
    let N = c.new-g.ensures in
    let H = none-held _ _ _ _ _ _ A N.1 in
    let R = none-room _ _ _ _ _ _ A N.1 in
    let F = c.loop-k.invariant in
    let z = c.var.new in
    let w = c.args.work.now in
    rw c.from_residual.ensures (opens_full _ _ _ _ _ _ A N.1 w z.cells (first-full _ _ _ _ _ H R _ _ _ _ F c.loop-k-test.true _ (λ P Q. c.rule_var-sort.ensures P (first_reads _ _ _ _ _ H R _ _ _ _ F P Q)) z.cells z.table w c.in_err-g.ensures))

pub returns : goal.returns
unfolding part
returns c =
    let A = c.requires in
    let N = c.new-g.ensures in
    opens_on _ _ _ _ _ _ A N.1 _ _ _ (first-all _ _ _ _ _ (none-held _ _ _ _ _ _ A N.1) (none-room _ _ _ _ _ _ A N.1) _ _ _ _ c.loop-k.invariant c.loop-k-test.false)
