-- `Store::intern` meets its contract.
use mathlib.Core.Path.{refl}
use native.Mathlib.Omega.{arith}
use Rattle.store.specs.Table.{found, short, added, slots_fit}
use Rattle.store.proofs.nodes.Store.intern.Goals as goal

pub overflow_add-result : goal.overflow_add-result
overflow_add-result c =
    let F = found _ _ _ _ c.requires.0 c.requires.1 _ c.in-Ok.ensures in
    omega (arith, F.0, slots_fit _ _ _ _ _ c.requires.0)

pub offset_bounds-index-room : goal.offset_bounds-index-room
offset_bounds-index-room c =
    let F = found _ _ _ _ c.requires.0 c.requires.1 _ c.in-Ok.ensures in
    omega (arith, F.0, slots_fit _ _ _ _ _ c.requires.0)

pub bounds-index-room : goal.bounds-index-room
bounds-index-room c =
    let F = found _ _ _ _ c.requires.0 c.requires.1 _ c.in-Ok.ensures in
    omega (arith, F.0, slots_fit _ _ _ _ _ c.requires.0)

pub overflow_sub-result : goal.overflow_sub-result
overflow_sub-result c =
    let F = found _ _ _ _ c.requires.0 c.requires.1 _ c.in-Ok.ensures in
    omega (arith, F.1)

pub returns-then-words-self : goal.returns-then-words-self
returns-then-words-self c =
    short _ _ _ _ c.requires.0 c.requires.1 _ c.in-Err.ensures (omega arith)

pub returns-in-Ok : goal.returns-in-Ok
returns-in-Ok c =
    let F = found _ _ _ _ c.requires.0 c.requires.1 _ c.in-Ok.ensures in
    F.2 _ refl

pub returns-else-words-self : goal.returns-else-words-self
returns-else-words-self c =
    let F = c.in-Err.ensures in
    added _ _ _ _ c.requires.0 c.requires.1 _ (record { stored = c.requires.0; some = c.requires.1; fits = omega arith; passed = F.0; free = F.1 }) _ _ _ c.add-st.ensures _ refl
