-- `search` meets its contract.
use mathlib.Core.Path.{refl, subst}
use mathlib.Core.List.{List}
use Prim.Native.Nat.{ℕ, ◌+◌, ◌*◌}
use Rattle.std.proofs.Common.{◌∙◌}
use Rattle.base.specs.Hash.{plain_hash}
use Rattle.base.specs.Part.{part-lent}
use Rattle.pack_tables.specs.Region.{slots_in, Probed}
use Rattle.pack_tables.proofs.region.search.Goals as goal

pub probe-requires : goal.probe-requires
unfolding slots_in
probe-requires c =
    let a = c.args in
    let b : ℕ = 2 * a.cap + 1 in
    let k : ℕ = 3 * a.cap + 1 in
    record { keyed = c.requires; slots_are = part-lent b (b + k) k a.region.now refl; hash_is = (c.hash-h.ensures.0 ∙ plain_hash _ _); below = c.hash-h.ensures.1 }

pub returns : goal.returns
unfolding slots_in
returns c =
    let a = c.args in
    let b : ℕ = 2 * a.cap + 1 in
    let k : ℕ = 3 * a.cap + 1 in
    subst (λ (h : ℕ). Probed a.pack.now (slots_in a.region.now a.cap) a.region.now h a.key.now c.probe.result) (c.hash-h.ensures.0 ∙ plain_hash _ _)
    (subst (λ (l : List ℕ). Probed a.pack.now l a.region.now c.hash-h.result a.key.now c.probe.result) (part-lent b (b + k) k a.region.now refl) c.probe.ensures)
