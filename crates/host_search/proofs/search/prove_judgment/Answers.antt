-- `prove_judgment` meets its contract.
use mathlib.Core.Path.{◌∙◌}
use Rattle.host_search.specs.Searched.{proved_leaves}
use Rattle.host_search.specs.Ends.{left_as}
use Rattle.host_search.proofs.search.prove_judgment.Goals as goal

pub returns : goal.returns
unfolding proved_leaves
returns c =
    let w = c.search_pack-sought in
    c.leave.ensures ∙ left_as _ w.new.work w.new.patterns w.new.proof w.result _ _ _ w.ensures w.auto.work w.auto.patterns w.auto.proof
