-- `read_word` meets its contract.
use mathlib.Core.Path.{refl}
use native.Mathlib.Omega.{arith}
use Rattle.pack_reader.specs.TermsTurns.{turn_end, turn-none, turn_many, turn-unfit, symbol-given, turn_on}
use mathlib.Core.Bool.{not}
use Rattle.std.proofs.Common.{ap}
use Rattle.pack_reader.proofs.terms.read_word.Goals as goal

pub overflow_sub-body : goal.overflow_sub-body
overflow_sub-body c = omega (arith, c.in-Some.ensures.at, c.requires.1.inside)

pub returns-then-body-at-lt4 : goal.returns-then-body-at-lt4
returns-then-body-at-lt4 c = turn-none _ _ c.args.body.now c.args.vars _ _ c.requires.1 _ _ _ c.in-Some.ensures c.if-body-at-lt4.true

pub returns-then-read-ge-WORDS : goal.returns-then-read-ge-WORDS
returns-then-read-ge-WORDS c =
    let W = c.in-Some.ensures in
    turn_many _ _ c.args.body.now c.args.vars _ _ c.requires.1 _ _ _ W (omega (arith, W.at, c.requires.1.inside)) c.if-read-ge-WORDS.true

pub u32_at-w-requires : goal.u32_at-w-requires
u32_at-w-requires c = omega (arith, c.in-Some.ensures.at, c.requires.1.inside)

pub fits_at-requires : goal.fits_at-requires
fits_at-requires c = let G = c.requires.1 in (c.requires.0, omega (arith, G.starts, G.inside))

pub returns-then-not-fits_at : goal.returns-then-not-fits_at
returns-then-not-fits_at c =
    let W = c.in-Some.ensures in
    turn-unfit _ _ c.args.body.now c.args.vars _ _ c.requires.1 _ _ _ W (omega (arith, W.at, c.requires.1.inside)) (omega arith) _ c.u32_at-w.ensures _ c.fits_at.ensures (ap not c.if-not-fits_at.true)

pub descend-requires : goal.descend-requires
descend-requires c =
    let W = c.in-Some.ensures in
    let G = c.requires.1 in (
      c.requires.0,
      W.stacked,
      omega (arith, W.frames, W.read, G.frames, c.if-read-ge-WORDS.false),
      symbol-given _ _ c.args.body.now c.args.vars _ _ G _ _ _ W (omega (arith, W.at, G.inside)) (omega arith) _ c.u32_at-w.ensures _ c.fits_at.ensures (ap not c.if-not-fits_at.false) c.requires.0.pack c.requires.0.reads,
    )

pub overflow_add-behind : goal.overflow_add-behind
overflow_add-behind c = let G = c.requires.1 in record { fits = omega (arith, c.in-Some.ensures.at, G.inside) }

pub returns-in_default : goal.returns-in_default
returns-in_default c = turn_end _ _ c.args.body.now c.args.vars _ _ c.requires.1 c.args.frames.now c.in_default.ensures

pub returns : goal.returns
returns c =
    let W = c.in-Some.ensures in
    turn_on _ _ c.args.body.now c.args.vars _ _ c.requires.1 _ _ _ W (omega (arith, W.at, c.requires.1.inside)) (omega arith) _ c.u32_at-w.ensures _ c.fits_at.ensures (ap not c.if-not-fits_at.false) _ _ _ refl refl refl refl c.descend.ensures
