-- `read_terms` meets its contract.
use Rattle.std.proofs.lemmas.Result.{err_from_is_err_and}
use mathlib.Core.Path.{refl, sym}
use native.Mathlib.Omega.{arith}
use Rattle.pack_tables.specs.Catalog.{records_of}
use Rattle.pack_reader.specs.TermsTurns.{Onward}
use Rattle.pack_reader.specs.TermsRun.{run_starts, run_on, run_ends, run_faulty}
use Rattle.pack_reader.proofs.terms.read_terms.Goals.{In-Some}
use Rattle.pack_reader.proofs.terms.read_terms.Goals as goal

pub loop-q-init : goal.loop-q-init
loop-q-init c = run_starts _ _ c.args.body.now c.args.vars c.args.premises _ refl c.requires.1 _ refl refl refl refl

pub slice_bounds-read_word-end : goal.slice_bounds-read_word-end
slice_bounds-read_word-end c = sym c.loop-q.invariant.reached.stacked.long

pub read_word-requires : goal.read_word-requires
read_word-requires c = (c.requires.0, c.loop-q.invariant.reached)

-- the next point
onward : (c : In-Some) → let a = c.args in
    Onward a.pack.now (records_of a.work.now a.c) a.body.now a.vars c.loop-q.frames c.read_word.new.frames c.loop-q.p c.in-Some.q
onward c = rw c.in-Some.is at c.in_ok-q.ensures

pub loop-q-smaller : goal.loop-q-smaller
loop-q-smaller c = let O = onward (goal.at.loop-q-smaller c).In-Some in omega (arith, O.read, O.reached.few)

pub loop-q-preserved : goal.loop-q-preserved
loop-q-preserved c = let a = c.args in run_on _ _ a.body.now a.vars a.premises _ _ c.loop-q.invariant _ _ (onward (goal.at.loop-q-preserved c).In-Some)

pub returns-in_err-q : goal.returns-in_err-q
returns-in_err-q c =
    let a = c.args in
    let p = err_from_is_err_and c.from_residual.result c.from_residual.ensures.1 in
    rw (p.1, p.2) (run_faulty _ _ a.body.now a.vars a.premises _ _ c.loop-q.invariant c.read_word.new.frames _ c.in_err-q.ensures)

pub returns : goal.returns
returns c = let a = c.args in run_ends _ _ a.body.now a.vars a.premises _ _ c.loop-q.invariant c.read_word.new.frames (rw c.in_default.is at c.in_ok-q.ensures)
