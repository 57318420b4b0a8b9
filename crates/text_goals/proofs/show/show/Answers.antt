-- `show` meets its contract.
use native.Mathlib.Omega.{arith}
use Rattle.std.proofs.lemmas.Result.{err_from_is_err_and}
use Rattle.text_goals.specs.Shows.{shows_unbuilt, shows_ended}
use Rattle.text_goals.proofs.show.show.Goals as goal

pub build_classes-requires : goal.build_classes-requires
build_classes-requires c = let p = c.requires in (p.0, p.1, p.2)

pub finish-requires : goal.finish-requires
finish-requires c =
    let p = c.requires in
    let m = c.build_classes in
    (c.in_ok-s.ensures.2, omega (arith, p.1, m.auto.class), p.3)

pub returns : goal.returns
returns c =
    let a = c.args in
    let m = c.build_classes in
    let f = c.finish in
    shows_ended _ _ _ _ _ a.text.now _ a.b _ _ _ _ _ _ _ _ c.in_ok-s.ensures f.result f.ensures f.auto.text

pub returns-in_err-s : goal.returns-in_err-s
returns-in_err-s c =
    let a = c.args in
    let m = c.build_classes in
    let e = err_from_is_err_and c.from_residual.result c.from_residual.ensures.1 in
    rw (e.1, e.2) (shows_unbuilt _ _ _ _ _ a.text.now _ a.b m.new.work m.new.class m.new.words m.new.cells a.text.now _ c.in_err-s.ensures)
