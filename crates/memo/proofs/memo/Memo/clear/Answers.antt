-- `Memo::clear` meets its contract.
use mathlib.Core.Path.{refl, sym, ap, ◌∙◌}
use mathlib.Core.Option.{Option, none}
use Prim.Native.Nat.{ℕ}
use lib.ListN.{replicate}
use Rattle.memo.specs.Recall.{cleared, length-recall}
use Rattle.memo.proofs.memo.Memo.clear.Goals as goal

pub returns-then-stamp : goal.returns-then-stamp
returns-then-stamp c =
    let a = c.args in
    let N = c.new.ensures in
    (N.0, N.1 ∙ ap (λ (k : ℕ). replicate {A = Option ℕ} k none) (sym (length-recall a.table.now a.self)))

pub returns : goal.returns
returns c = cleared _ _ _ c.requires refl
