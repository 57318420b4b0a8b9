-- `copy_class` meets its contract.
use mathlib.Core.Path.{sym, subst}
use mathlib.Core.List.{List}
use Prim.Native.Nat.{ℕ}
use native.Mathlib.Omega.{arith}
use Rattle.term_copy.specs.Held.{Given, Copies}
use Rattle.class_premises.specs.Layout.{copying_of}
use Rattle.class_premises.specs.Takes.{flex_in, flex_lent, copying_given}
use Rattle.class_premises.proofs.premise.copy_class.Goals as goal

pub copy-requires : goal.copy-requires
copy-requires c =
    let a = c.args in
    let s = c.requires in (
      subst (λ (xs : List ℕ). Given a.work.now a.words.now a.cells.now xs (copying_of a.l) a.st a.memo a.g) (sym (flex_lent a.class.now a.row _ c.row_variables.ensures)) (copying_given _ _ _ _ _ _ _ _ _ s),
      omega (arith, c.row_conclusion-p.ensures, s.stands.stored),
    )

pub returns : goal.returns
returns c =
    let a = c.args in
    let d = c.copy in
    let p = c.row_conclusion-p in
    subst (λ (n : ℕ). Copies a.work.now d.new.work a.words.now a.cells.now d.new.cells (flex_in a.class.now a.row) (copying_of a.l) a.st a.g n d.result) p.ensures
    (subst (λ (xs : List ℕ). Copies a.work.now d.new.work a.words.now a.cells.now d.new.cells xs (copying_of a.l) a.st a.g p.result.0 d.result) (flex_lent a.class.now a.row _ c.row_variables.ensures) d.ensures)
