-- `Store::search` meets its contract.
use mathlib.Core.Path.{refl, subst}
use mathlib.Core.List.{List}
use Prim.Native.Nat.{ℕ, ◌+◌}
use Rattle.std.proofs.Common.{◌∙◌}
use Rattle.base.specs.Hash.{plain_hash}
use Rattle.base.specs.Part.{part-lent}
use Rattle.store.specs.Stored.{nodes, slots_in, slots_for, room_in, Probed}
use Rattle.store.proofs.nodes.Store.search.Goals as goal

pub probe-requires : goal.probe-requires
unfolding slots_in
probe-requires c =
    let a = c.args in
    let room : ℕ = room_in a.words.now in
    let k : ℕ = slots_for a.self.hashes in
    record {
      stored = c.requires.0;
      slots_are = part-lent room (room + k) k a.index.now refl;
      hash_is = (c.hash-h.ensures.0 ∙ plain_hash _ _);
      below = c.hash-h.ensures.1;
      some = c.requires.1;
    }

pub returns : goal.returns
unfolding slots_in
returns c =
    let a = c.args in
    let room : ℕ = room_in a.words.now in
    let k : ℕ = slots_for a.self.hashes in
    let s = nodes a.words.now a.self in
    subst (λ (h : ℕ). Probed (slots_in a.index.now a.words.now a.self.hashes) s h a.key.now c.probe.result) (c.hash-h.ensures.0 ∙ plain_hash _ _)
    (subst (λ (l : List ℕ). Probed l s c.hash-h.result a.key.now c.probe.result) (part-lent room (room + k) k a.index.now refl) c.probe.ensures)
