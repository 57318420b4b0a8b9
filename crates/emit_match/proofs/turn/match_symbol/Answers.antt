-- `match_symbol` meets its contract.
use mathlib.Core.Path.{refl, sym, ap, subst, ◌∙◌}
use mathlib.Core.List.{List}
use Prim.Native.Nat.{ℕ}
use native.Mathlib.Omega.{arith}
use lib.ListN.{length, get_or}
use Rattle.emit_match.specs.Pushed.{ArgumentsOn}
use Rattle.emit_match.proofs.turn.match_symbol.Goals as goal

pub slice_bounds-node-start : goal.slice_bounds-node-start
slice_bounds-node-start c = omega (arith, c.requires.order, c.requires.fits)

pub slice_bounds-node-end : goal.slice_bounds-node-end
slice_bounds-node-end c = omega (arith, c.requires.order, c.requires.fits)

pub node-key-requires : goal.node-key-requires
node-key-requires c = (c.requires.stored, c.requires.pattern)

pub bounds-key-0 : goal.bounds-key-0
bounds-key-0 c = omega (arith, ap length c.node-key.ensures)

pub returns-then-key-h : goal.returns-then-key-h
returns-then-key-h c = (λ e. c.if-key-h.true (ap (λ (l : List ℕ). get_or l 0 0) c.node-key.ensures ∙ e), refl)

pub push_arguments-requires : goal.push_arguments-requires
push_arguments-requires c =
    let n = c.node-key.ensures in
    let e = c.requires.room (sym (ap (λ (l : List ℕ). get_or l 0 0) n) ∙ c.if-key-h.false) in
    (omega (arith, ap length n), omega (arith, ap length n, e))

pub returns : goal.returns
returns c =
    let n = c.node-key.ensures in
    (sym (ap (λ (l : List ℕ). get_or l 0 0) n) ∙ c.if-key-h.false, subst (λ (l : List ℕ). ArgumentsOn c.args.work.now c.push_arguments.new.work l c.args.rest c.push_arguments.result) n c.push_arguments.ensures)
