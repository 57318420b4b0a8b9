-- `descend` meets its contract.
use mathlib.Core.Path.{refl}
use Prim.Native.Nat.{◌*◌}
use native.Mathlib.Omega.{arith}
use lib.ListN.{length-set}
use Rattle.pack_reader.specs.Reading.{variable-more, constant_more, arguments_more}
use Rattle.pack_reader.proofs.terms.descend.Goals as goal

pub returns-then-w-ge-VAR : goal.returns-then-w-ge-VAR
returns-then-w-ge-VAR c = variable-more _ _ _ c.args.p c.args.w c.requires.1 c.if-w-ge-VAR.true

pub symbol_arity-requires : goal.symbol_arity-requires
symbol_arity-requires c = (c.requires.0, c.requires.3 (omega arith))

pub returns-then-symbol_arity-eq0 : goal.returns-then-symbol_arity-eq0
returns-then-symbol_arity-eq0 c = constant_more _ _ _ c.args.p c.args.w c.requires.1 (omega arith) c.symbol_arity.result c.symbol_arity.ensures c.if-symbol_arity-eq0.true

pub bounds-frames-n-2 : goal.bounds-frames-n-2
bounds-frames-n-2 c =
    omega (arith, c.requires.1.long, length-set c.args.frames.now (2 * c.args.p.frames) c.args.w)

pub returns : goal.returns
returns c =
    arguments_more _ _ _ c.args.p c.args.w c.requires.1 (omega arith) (c.requires.3 (omega arith)) c.requires.2 c.symbol_arity.result c.symbol_arity.ensures c.requires.0.pack c.requires.0.reads (omega arith) _ refl refl refl refl
