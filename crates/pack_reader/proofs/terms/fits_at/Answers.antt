-- `fits_at` meets its contract.
use native.Mathlib.Omega.{arith}
use Rattle.pack_reader.specs.Reading.{no_variable, a_variable, no_symbol, a_symbol}
use Rattle.pack_reader.proofs.terms.fits_at.Goals as goal

pub returns-then-vars-v : goal.returns-then-vars-v
returns-then-vars-v c = let a = c.args in no_variable _ _ a.body.now a.vars a.s a.w c.if-w-ge-VAR.true c.if-vars-v.true

pub returns-then-w-ge-VAR : goal.returns-then-w-ge-VAR
returns-then-w-ge-VAR c = let a = c.args in a_variable _ _ a.body.now a.vars a.s a.w c.if-w-ge-VAR.true (omega arith) c.word.result c.word.ensures

pub returns-then-count-h : goal.returns-then-count-h
returns-then-count-h c = let a = c.args in no_symbol _ _ a.body.now a.vars a.s a.w (omega arith) (omega arith)

pub returns : goal.returns
returns c = let a = c.args in a_symbol _ _ a.body.now a.vars a.s a.w (omega arith) (omega arith) c.symbol_output.result c.symbol_output.ensures
