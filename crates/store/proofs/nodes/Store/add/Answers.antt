-- `Store::add` meets its contract.
use mathlib.Core.Path.{sym, subst}
use native.Mathlib.Omega.{arith}
use Rattle.store.specs.Table.{more_len, here, widens, wider, room-left, half_full, slot_inside, slots_fit}
use Rattle.store.specs.Stored.{Added}
use Rattle.store.specs.declared.nodes.Store.{Store}
use Rattle.store.proofs.nodes.Store.add.Goals as goal

pub overflow_add-index : goal.overflow_add-index
overflow_add-index c = let A = c.requires in omega (arith, slot_inside _ _ _ _ _ A, slots_fit _ _ _ _ _ A.stored)

pub offset_bounds-index-room : goal.offset_bounds-index-room
offset_bounds-index-room c = let A = c.requires in omega (arith, slot_inside _ _ _ _ _ A, slots_fit _ _ _ _ _ A.stored)

pub bounds-index-room : goal.bounds-index-room
bounds-index-room c = let A = c.requires in omega (arith, slot_inside _ _ _ _ _ A, slots_fit _ _ _ _ _ A.stored, c.append-st.auto.index)

pub returns-then-n-m : goal.returns-then-n-m
returns-then-n-m c = here _ _ _ _ _ c.requires _ _ _ c.append-st.ensures (omega arith)

pub rebuild-requires : goal.rebuild-requires
rebuild-requires c =
    let A = c.requires in
    let D = c.append-st.ensures in
    let m = c.min-wide.ensures in
    widens _ _ _ _ _ A _ _ _ _ D (omega (arith, m, more_len _ _ _ _ _ A _ _ _ D, room-left _ _ _ _ _ A, half_full _ _ _ _ _ A)) (omega (arith, m))

pub returns : goal.returns
returns c =
    let a = c.args in
    let R = c.rebuild.ensures in
    subst (λ (st : Store). Added a.words.now c.rebuild.new.index c.append-st.new.words a.self a.key.now st) (sym R.0) (wider _ _ _ _ _ c.requires _ _ _ _ _ c.append-st.ensures R.1)
