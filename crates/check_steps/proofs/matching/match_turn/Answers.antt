-- `match_turn` meets its contract.
use mathlib.Core.Path.{sym, ◌∙◌}
use native.Mathlib.Omega.{arith}
use Rattle.pack_tables.specs.Catalog.{records_few}
use Rattle.pack_read.specs.Reads.{length-nodes}
use Rattle.pack_read.specs.Held.{readable}
use Rattle.check_steps.specs.MatchTurns.{few_vars, on_stack, all_done, there, a_node, variable-below, value-fits, value_differs, head_differs, arguments_room, head-fits}
use Rattle.check_steps.proofs.matching.match_turn.Goals as goal

pub pop-requires : goal.pop-requires
pop-requires c = let p = c.requires in on_stack p.0.pack p.0.proper _ p.2 _ _ _ _ p.1 p.4

pub rule_word-w-requires : goal.rule_word-w-requires
rule_word-w-requires c =
    let p = c.requires in
    let H = p.0 in
    (readable _ _ _ H, omega (arith, p.2, H.reads.rules.many), p.3, there H.pack H.proper _ p.2 _ _ _ _ p.1 p.4 _ _ c.in-Some.ensures)

pub bind-requires : goal.bind-requires
bind-requires c =
    let p = c.requires in
    let H = p.0 in
    let took = c.in-Some.ensures in
    let t = there H.pack H.proper _ p.2 _ _ _ _ p.1 p.4 _ _ took in
    let v = variable-below H.pack H.proper _ p.2 _ _ _ _ p.1 p.4 _ _ took _ (c.rule_word-w.ensures H.pack H.reads t) c.if-w-ge-VAR.true in
    let n = a_node H.pack H.proper _ p.2 _ _ _ _ p.1 p.4 _ _ took in (
      omega (arith, v, few_vars H.pack H.proper _ p.2 _ _ _ _ p.1 p.4, p.4.slots),
      omega (arith, n, length-nodes _ _ H.pack H.reads, records_few _ _ _ 3 H.cataloged (omega arith), H.cataloged.fits.small),
    )

pub returns-then-bind : goal.returns-then-bind
returns-then-bind c = λ P R Q l bs M.
    let took = c.in-Some.ensures in
    let t = there P Q _ l _ _ _ _ bs M _ _ took in
    value-fits P Q _ l _ _ _ _ bs M _ _ took _ (c.rule_word-w.ensures P R t) c.if-w-ge-VAR.true _ c.bind.auto.values (rw c.if-bind.true at c.bind.ensures)

pub returns-then-w-ge-VAR : goal.returns-then-w-ge-VAR
returns-then-w-ge-VAR c = λ P R Q l bs M.
    let took = c.in-Some.ensures in
    let t = there P Q _ l _ _ _ _ bs M _ _ took in
    value_differs P Q _ l _ _ _ _ bs M _ _ took _ (c.rule_word-w.ensures P R t) c.if-w-ge-VAR.true c.bind.new.values (rw c.if-bind.false at c.bind.ensures)

pub node_head-requires : goal.node_head-requires
node_head-requires c =
    let p = c.requires in
    let H = p.0 in
    let n = a_node H.pack H.proper _ p.2 _ _ _ _ p.1 p.4 _ _ c.in-Some.ensures in
    (readable _ _ _ H, omega (arith, n, length-nodes _ _ H.pack H.reads))

pub returns-then-node_head-w : goal.returns-then-node_head-w
returns-then-node_head-w c = λ P R Q l bs M.
    let took = c.in-Some.ensures in
    let t = there P Q _ l _ _ _ _ bs M _ _ took in
    head_differs P Q _ l _ _ _ _ bs M _ _ took _ (c.rule_word-w.ensures P R t) (omega (arith, c.if-w-ge-VAR.false)) (λ e. c.if-node_head-w.true (c.node_head.ensures P R ∙ e))

pub push_arguments-requires : goal.push_arguments-requires
push_arguments-requires c =
    let p = c.requires in
    let H = p.0 in
    let took = c.in-Some.ensures in
    let t = there H.pack H.proper _ p.2 _ _ _ _ p.1 p.4 _ _ took in (
      H,
      a_node H.pack H.proper _ p.2 _ _ _ _ p.1 p.4 _ _ took,
      took.0 ∙ p.4.base,
      arguments_room H.pack H.proper _ p.2 _ _ _ _ p.1 p.4 _ _ took _ (c.rule_word-w.ensures H.pack H.reads t) (omega (arith, c.if-w-ge-VAR.false)) (sym (c.node_head.ensures H.pack H.reads) ∙ c.if-node_head-w.false),
    )

pub returns : goal.returns
returns c = λ P R Q l bs M.
    let took = c.in-Some.ensures in
    let t = there P Q _ l _ _ _ _ bs M _ _ took in
    head-fits P Q _ l _ _ _ _ bs M _ _ took _ (c.rule_word-w.ensures P R t) (omega (arith, c.if-w-ge-VAR.false)) (sym (c.node_head.ensures P R) ∙ c.if-node_head-w.false) _ _ c.push_arguments.auto.stack c.push_arguments.ensures.0 (c.push_arguments.ensures.1 P R Q)

pub returns-in_default : goal.returns-in_default
returns-in_default c = λ P R Q l bs M. all_done P Q _ l _ _ _ _ bs M c.in_default.ensures
