-- `read_either` meets its contract.
use Rattle.term_readback.specs.Ways.{opening-node, opening_so, gives_so}
use Rattle.graph.specs.Joins.{head-variable, head-other}
use Rattle.term_readback.specs.Roots.{Variable, Applied}
use Rattle.term_readback.proofs.root.read_either.Goals as goal

pub head-requires : goal.head-requires
head-requires c = let K = c.requires in (K.holding.lies.stands.shows.laid, opening-node _ _ _ _ _ _ _ _ _ _ _ _ _ K)

pub read_variable-requires : goal.read_variable-requires
read_variable-requires c = let K = c.requires in opening_so _ _ _ _ _ _ _ _ _ _ _ _ _ K _ (head-variable K.graph _ c.head.result (c.head.ensures K.graph K.holding.lies.stands.shows) c.if-head.true)

pub returns-then-head : goal.returns-then-head
returns-then-head c = let K = c.requires in gives_so _ _ _ _ _ _ _ _ _ _ _ _ _ K (Variable c.args.x.0) (λ h S v. head-variable h _ c.head.result (c.head.ensures h S) c.if-head.true) c.read_variable.new.work c.read_variable.new.words c.read_variable.result c.read_variable.ensures

pub read_applied-requires : goal.read_applied-requires
read_applied-requires c = let K = c.requires in record { bytes = c.args.pack.now; catalog = c.args.s.catalog; everyone = c.args.s.everyone; opening = opening_so _ _ _ _ _ _ _ _ _ _ _ _ _ K _ (head-other K.graph _ c.head.result (c.head.ensures K.graph K.holding.lies.stands.shows) c.if-head.false) }

pub returns : goal.returns
returns c = let K = c.requires in gives_so _ _ _ _ _ _ _ _ _ _ _ _ _ K (Applied c.args.x.0) (λ h S v. head-other h _ c.head.result (c.head.ensures h S) c.if-head.false) c.read_applied.new.work c.read_applied.new.words c.read_applied.result (c.read_applied.ensures _ _ _ (opening_so _ _ _ _ _ _ _ _ _ _ _ _ _ K _ (head-other K.graph _ c.head.result (c.head.ensures K.graph K.holding.lies.stands.shows) c.if-head.false)))
