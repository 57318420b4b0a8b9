-- `Store::append` meets its contract.
use mathlib.Core.Path.{refl, ◌∙◌}
use Prim.Native.Nat.{◌+◌, ◌-◌}
use native.Mathlib.Omega.{arith}
use lib.ListN.{length, set}
use Rattle.base.specs.Part.{put-lent}
use Rattle.store.specs.Words.{words-most}
use Rattle.store.specs.Table.{append-words}
use Rattle.store.specs.Stored.{nodes}
use Rattle.store.proofs.nodes.Store.append.Goals as goal

pub offset_bounds-index-n : goal.offset_bounds-index-n
offset_bounds-index-n c = let F = c.requires in omega (arith, F.fits, F.placed.used, F.placed.len, F.placed.enough.small, words-most (nodes c.args.words.now c.args.self))

pub bounds-index-n : goal.bounds-index-n
bounds-index-n c =
    let F = c.requires in
    omega (arith, F.fits, F.some, F.placed.used, F.placed.len, F.placed.enough.wide, words-most (nodes c.args.words.now c.args.self))

pub overflow_add-result : goal.overflow_add-result
overflow_add-result c = let F = c.requires in omega (arith, F.fits, F.placed.used, F.placed.len, F.placed.enough.small, words-most (nodes c.args.words.now c.args.self))

pub returns : goal.returns
returns c =
    let a = c.args in
    let F = c.requires in
    let u = a.self.used in
    let k = length a.key.now in
    record {
      state = refl;
      index_is = refl;
      words_are = put-lent (u + 1) (u + 1 + k) k (set a.words.now u (k - 1)) _ a.key.now refl c.copy_cells.ensures
          ∙ append-words (nodes a.words.now a.self) a.words.now a.key.now u F.placed.begins F.placed.used F.some F.fits;
    }
