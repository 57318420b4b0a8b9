-- `search_opened` meets its contract.
use Rattle.host_walk.specs.Places.{held_there}
use Rattle.host_search.specs.Calls.{pack_node, pack_wrong}
use mathlib.Core.Path.{sym, ◌∙◌}
use Rattle.host_search.proofs.search.search_opened.Goals as goal

pub is_asked-requires : goal.is_asked-requires
is_asked-requires c = held_there _ _ _ _ c.requires.there _ c.tables-c.ensures

pub search_node-requires : goal.search_node-requires
search_node-requires c =
    record { opened = c.requires; tables = c.tables-c.ensures; asked = λ P R Q. sym (c.is_asked.ensures P R Q) ∙ c.if-is_asked.true }

pub returns-then-is_asked : goal.returns-then-is_asked
returns-then-is_asked c =
    let w = c.search_node in
    pack_node _ _ w.new.proof _ _ _ c.args.q w.result c.tables-c.ensures c.is_asked.result c.is_asked.ensures c.if-is_asked.true w.ensures

pub returns : goal.returns
returns c = pack_wrong _ _ c.args.proof.now _ _ _ c.args.q c.tables-c.ensures c.is_asked.result c.is_asked.ensures c.if-is_asked.false
