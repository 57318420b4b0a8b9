-- `bind` meets its contract.
use Rattle.term_instance.specs.Binds.{binds_known, binds_new}
use Rattle.term_instance.proofs.instance.bind.Goals as goal

pub returns-in-Some : goal.returns-in-Some
returns-in-Some c =
    binds_known _ _ _ _ _ c.requires _ c.in-Some.ensures

pub returns-in-None : goal.returns-in-None
returns-in-None c =
    binds_new _ _ _ _ _ c.requires c.in-None.ensures _ c.put.ensures
