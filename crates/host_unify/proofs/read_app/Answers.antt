-- `read_app` meets its contract.
use mathlib.Core.Path.{refl, sym, ◌∙◌}
use Prim.Native.Nat.{◌+◌}
use native.Mathlib.Omega.{arith}
use lib.ListN.{get_or}
use Rattle.host_unify.specs.Solved.{earlier}
use Rattle.host_unify.specs.Turns.{app_broken, app_late, app_full, app_next}
use Rattle.host_unify.proofs.read_app.Goals as goal

pub returns-then-terms-at-lt2 : goal.returns-then-terms-at-lt2
returns-then-terms-at-lt2 c = app_broken _ _ _ _ _ c.requires.0 c.requires.1 c.requires.2 (omega arith)

pub overflow_cast-n : goal.overflow_cast-n
overflow_cast-n c = record { fits = omega (arith, c.shared_slice_known-2-1.given (c.args.at + 1)) }

pub returns-then-terms-at : goal.returns-then-terms-at
returns-then-terms-at c = app_broken _ _ _ _ _ c.requires.0 c.requires.1 c.requires.2 (omega arith)

pub push-requires : goal.push-requires
push-requires c = c.requires.0.shows.laid

pub returns-then-not-all_below : goal.returns-then-not-all_below
unfolding earlier
returns-then-not-all_below c =
    let a = c.args in
    app_late _ _ _ _ _ c.requires.0 c.requires.1 c.requires.2 (a.at + 2 + get_or a.terms.now (a.at + 1) 0) refl (omega arith) (sym c.all_below.ensures ∙ c.if-not-all_below.true)

pub returns-in_default : goal.returns-in_default
unfolding earlier
returns-in_default c =
    let a = c.args in
    app_full _ _ _ _ _ c.requires.0 c.requires.1 c.requires.2 (a.at + 2 + get_or a.terms.now (a.at + 1) 0) refl (omega arith) (sym c.all_below.ensures ∙ c.if-not-all_below.false) c.push.new.cells c.push.new.table c.push.auto.cells c.in_default.ensures

pub returns : goal.returns
unfolding earlier
returns c =
    let a = c.args in
    app_next _ _ _ _ _ c.requires.0 c.requires.1 c.requires.2 (a.at + 2 + get_or a.terms.now (a.at + 1) 0) refl (omega arith) (sym c.all_below.ensures ∙ c.if-not-all_below.false) _ _ c.push.auto.cells _ _ c.in-Some.ensures
