-- `push_arguments` meets its contract: with each turn one pair more stands on the worklist, and those left give the whole.
use Rattle.term_values.specs.Pushes.{pushing_stands, pushing_readable, pushing_ground, pushing_argument, pushing_beside, pushing_more, pushing_all}
use Rattle.term_values.proofs.fix.push_arguments.Goals as goal

pub argument-x-requires : goal.argument-x-requires
argument-x-requires c =
    let Q = c.requires in
    let K = c.loop-i.invariant in
    ((pushing_stands _ _ _ _ _ _ _ _ _ _ Q _ _ _ K).shows.laid, Q.node, pushing_argument _ _ _ _ _ _ _ _ _ _ Q _ _ _ K c.loop-i-test.true)

pub node_argument-m-requires : goal.node_argument-m-requires
node_argument-m-requires c =
    let Q = c.requires in
    let K = c.loop-i.invariant in
    (pushing_readable _ _ _ _ _ _ _ _ _ _ Q _ _ _ K, pushing_ground _ _ _ _ _ _ _ _ _ _ Q _ _ _ K, pushing_beside _ _ _ _ _ _ _ _ _ _ Q _ _ _ K c.loop-i-test.true)

pub loop-i-preserved : goal.loop-i-preserved
loop-i-preserved c =
    let Q = c.requires in
    let K = c.loop-i.invariant in
    let x = c.argument-x in
    let m = c.node_argument-m in
    pushing_more _ _ _ _ _ _ _ _ _ _ Q _ _ _ K c.loop-i-test.true x.result.0 m.result.0 x.ensures m.ensures _ c.put_pair.ensures

pub returns : goal.returns
returns c =
    let Q = c.requires in
    let K = c.loop-i.invariant in
    pushing_all _ _ _ _ _ _ _ _ _ _ Q _ _ _ K c.loop-i-test.false
