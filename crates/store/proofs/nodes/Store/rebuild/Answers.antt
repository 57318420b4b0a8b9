-- `Store::rebuild` meets its contract: with each turn one node more is in the table.
use mathlib.Core.Path.{refl, sym, ap, ◌∙◌, subst}
use mathlib.Core.List.{List}
use Prim.Native.Nat.{ℕ, ◌+◌, ◌≤◌}
use native.Mathlib.Omega.{arith}
use lib.ListN.{length, replicate}
use Rattle.base.specs.Part.{put-lent, part-lent, length_part}
use Rattle.store.specs.Stored.{nodes, slots_for, room_in, Entered}
use Rattle.store.specs.Table.{rebuilt}
use Rattle.store.proofs.nodes.Store.rebuild.Goals as goal

pub loop-i-init : goal.loop-i-init
loop-i-init c =
    let a = c.args in
    let R = c.requires in
    let room : ℕ = room_in a.words.now in
    let k : ℕ = slots_for a.self.hashes in
    let fits : room + k ≤ length a.index.now = omega (arith, R.ranged.most, R.placed.enough.wide) in
    let long = ap length (part-lent room (room + k) k a.index.now refl) ∙ length_part room k a.index.now fits in
    let e = put-lent room (room + k) k a.index.now _ (replicate k 0) refl ((c.fill.ensures.after (λ y e. e)) ∙ ap (λ (n : ℕ). replicate n 0) long) in
    (omega arith, refl, subst (λ (l : List ℕ). Entered l a.words.now a.self (nodes a.words.now a.self) 0) (sym e) (rebuilt a.index.now a.words.now a.self (nodes a.words.now a.self) R))
