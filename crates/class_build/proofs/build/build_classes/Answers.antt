-- `build_classes` meets its contract.
use Rattle.class_build.specs.Goes.{classes_short, count_there, classes_begin, classes_on}
use Rattle.class_build.proofs.build.build_classes.Goals as goal

pub count-fill-requires : goal.count-fill-requires
count-fill-requires c = let m = c.make_ready in count_there _ _ _ _ _ _ m.new.work m.new.class _ _ _ _ _ m.auto.class c.in-Some.ensures c.requires.0

pub make_from-requires : goal.make_from-requires
make_from-requires c = let m = c.make_ready in classes_begin _ _ _ _ _ _ m.new.work m.new.class _ _ _ _ _ m.auto.class c.in-Some.ensures _ c.count-fill.ensures c.requires.0 c.requires.1 c.requires.2

pub returns : goal.returns
returns c =
    let m = c.make_ready in
    let d = c.make_from in
    classes_on _ _ _ _ _ _ m.new.work m.new.class _ _ _ _ _ m.auto.class c.in-Some.ensures _ c.count-fill.ensures d.new.work d.new.class d.new.words d.new.cells d.result d.ensures

pub returns-in_default : goal.returns-in_default
returns-in_default c = let m = c.make_ready in classes_short _ _ _ _ _ _ m.new.work m.new.class c.in_default.ensures m.new.work m.new.class m.new.work m.new.work
