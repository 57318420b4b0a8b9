-- `clear` meets its contract.
use mathlib.Core.Path.{◌≡◌, refl, sym, ap, ◌∙◌, subst}
use mathlib.Core.List.{List, []}
use Prim.Native.Nat.{ℕ, ◌+◌, ◌*◌, ◌≤◌}
use native.Mathlib.Omega.{arith}
use lib.ListN.{length, set, replicate, length-set}
use Rattle.base.specs.Part.{put-lent, part-lent, length_part}
use Rattle.pack_tables.specs.Region.{Emptied}
use Rattle.pack_tables.specs.RegionLaws.{uncounted, cleared}
use mathlib.Core.Bool.{not}
use Rattle.pack_tables.proofs.region.clear.Goals as goal

pub returns-then-not-keys : goal.returns-then-not-keys
returns-then-not-keys c = uncounted c.args.region.now c.args.cap c.requires.0 c.requires.1 c.args.keys (ap not c.if-not-keys.true)

pub slice_bounds-fill-end : goal.slice_bounds-fill-end
slice_bounds-fill-end c = simp length-set (omega (arith, c.requires.0))

pub returns : goal.returns
returns c =
    let a = c.args in
    let r : List ℕ = set a.region.now 0 0 in
    let m : length r ≡ length a.region.now = length-set a.region.now 0 0 in
    let b : ℕ = 2 * a.cap + 1 in
    let k : ℕ = 3 * a.cap + 1 in
    let fits : b + k ≤ length r = omega (arith, c.requires.0) in
    let long = ap length (part-lent b (b + k) k r refl) ∙ length_part b k r fits in
    let e = put-lent b (b + k) k r _ (replicate k 0) refl ((c.fill.ensures.after (λ y e. e)) ∙ ap (λ (n : ℕ). replicate n 0) long) in
    subst (λ (l : List ℕ). Emptied l a.cap a.keys) (sym e) (cleared a.region.now a.cap c.requires.0 c.requires.1 a.keys)

pub shape_of-region : goal.shape_of-region
shape_of-region c = ((returns c).kept []).long ∙ sym c.requires.0
