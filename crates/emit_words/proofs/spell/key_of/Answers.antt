-- `key_of` meets its contract.
use native.Mathlib.Omega.{arith}
use Rattle.base.specs.Part.{part}
use Rattle.emit_state.specs.Places.{small_places}
use Rattle.emit_words.proofs.spell.key_of.Goals as goal

pub index_end-e-requires : goal.index_end-e-requires
index_end-e-requires c =
    small_places _ _ c.requires.ready.holding.laid

pub slice_bounds-node-start : goal.slice_bounds-node-start
slice_bounds-node-start c =
    rw c.index_end-e.ensures (omega arith)

pub slice_bounds-node-end : goal.slice_bounds-node-end
slice_bounds-node-end c =
    rw c.index_end-e.ensures (omega (arith, c.requires.ready.holding.laid.index, c.requires.ready.holding.laid.within))

pub node-requires : goal.node-requires
unfolding part
node-requires c =
    (rw c.index_end-e.ensures c.requires.ready.holding.stored, c.requires.there)
