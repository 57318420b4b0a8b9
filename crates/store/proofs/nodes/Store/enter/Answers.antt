-- `Store::enter` meets its contract.
use mathlib.Core.Path.{◌≡◌, refl, sym, ap, ◌∙◌, subst}
use mathlib.Core.List.{List}
use Prim.Native.Nat.{ℕ, ◌+◌, ◌<◌}
use lib.ListN.{length, get_or}
use Rattle.base.specs.Hash.{plain_hash}
use Rattle.base.specs.Part.{part, part-lent}
use Rattle.base.specs.Probe.{Ran, taken}
use Rattle.base.specs.Hash.{hash_of}
use Rattle.store.specs.Stored.{nodes, slots_in, slots_for, room_in}
use Rattle.store.specs.Table.{entered, searches}
use Rattle.store.proofs.nodes.Store.enter.Goals as goal

pub free_slot-s-requires : goal.free_slot-s-requires
unfolding slots_in
free_slot-s-requires c =
    let a = c.args in
    let room : ℕ = room_in a.words.now in
    let k : ℕ = slots_for a.self.hashes in
    subst (λ (l : List ℕ). c.hash-h.result + taken l < length l) (sym (part-lent room (room + k) k a.index.now refl))
    (searches a.index.now a.words.now a.self _ _ c.requires.0 c.hash-h.result c.hash-h.ensures.1)

pub returns : goal.returns
unfolding slots_in
returns c =
    let a = c.args in
    let E = c.requires.0 in
    let room : ℕ = room_in a.words.now in
    let k : ℕ = slots_for a.self.hashes in
    let e = part-lent room (room + k) k a.index.now refl in
    let h = (c.hash-h.ensures.0 ∙ plain_hash _ _) ∙ ap (hash_of a.self.hashes) c.key_at-key.ensures in
    let R = subst (λ (l : List ℕ). Ran l c.hash-h.result c.free_slot-s.result × (get_or l c.free_slot-s.result 0 ≡ 0)) e c.free_slot-s.ensures in
    entered a.index.now a.words.now a.self (nodes a.words.now a.self) a.i c.free_slot-s.result E c.requires.1
    (subst (λ (x : ℕ). Ran (part room k a.index.now) x c.free_slot-s.result) h R.0) R.1
