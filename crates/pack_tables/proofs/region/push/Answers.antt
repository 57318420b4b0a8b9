-- `push` meets its contract.
use mathlib.Core.Path.{ap, ◌∙◌, sym, subst}
use mathlib.Core.List.{List}
use Prim.Native.Nat.{ℕ}
use Rattle.pack_tables.specs.Region.{places, Kept}
use Rattle.pack_tables.specs.RegionLaws.{entering, places-appended, kept-appended}
use Rattle.pack_tables.proofs.region.push.Goals as goal

pub append-requires : goal.append-requires
append-requires c = entering _ _ _ _ c.requires.0 c.requires.1

pub returns : goal.returns
returns c =
    let A = entering _ _ _ _ c.requires.0 c.requires.1 in
    let e = c.append.ensures in
    (ap places e ∙ places-appended _ _ _ _ A, subst (λ (r : List ℕ). Kept c.args.pack.now r c.args.cap) (sym e) (kept-appended _ _ _ _ A _ c.requires.0 c.requires.1.framed))
