-- `conclude` meets its contract.
use Rattle.class_conclude.specs.Concludes.{held_pack, conclude_spelt, conclude_asked, conclude_full, conclude_topping, concludes}
use Rattle.class_conclude.proofs.conclude.conclude.Goals as goal

pub pass_terms-to-requires : goal.pass_terms-to-requires
pass_terms-to-requires c = (held_pack _ _ _ _ _ _ _ _ _ _ c.requires, conclude_spelt _ _ _ _ _ _ _ _ _ _ c.requires)

pub instantiate-requires : goal.instantiate-requires
instantiate-requires c = rw c.place-place.ensures (conclude_asked _ _ _ _ _ _ _ _ _ _ c.requires _ c.pass_terms-to.ensures)

pub read_top-requires : goal.read_top-requires
read_top-requires c = conclude_topping _ _ _ _ _ _ _ _ _ _ c.requires _ c.pass_terms-to.ensures _ _ _ _ (rw c.place-place.ensures at c.in-Some.ensures) c.instantiate.auto.cells

pub returns : goal.returns
returns c =
    concludes _ _ _ _ _ _ _ _ _ _ c.requires _ c.pass_terms-to.ensures _ _ _ _ (rw c.place-place.ensures at c.in-Some.ensures) c.instantiate.auto.cells c.read_top.new.work c.read_top.new.words c.read_top.result
    c.read_top.ensures

pub returns-in_default : goal.returns-in_default
returns-in_default c =
    conclude_full _ _ _ _ _ _ _ _ _ _ c.requires _ c.pass_terms-to.ensures c.instantiate.new.work c.args.words.now c.instantiate.new.cells (rw c.place-place.ensures at c.in_default.ensures)
