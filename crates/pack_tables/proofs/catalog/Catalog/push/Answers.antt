-- `Catalog::push` meets its contract.
use mathlib.Core.Path.{◌≡◌, sym, subst}
use mathlib.Core.List.{List, [], ◌∷◌, ◌++◌}
use Prim.Native.Nat.{ℕ}
use native.Mathlib.Omega.{arith}
use Rattle.pack_tables.specs.Region.{places, Kept, Entering}
use Rattle.pack_tables.specs.Catalog.{lent, unlent, lent-put, lent_inside, entering_in, pushed_in, More}
use Rattle.pack_tables.proofs.catalog.Catalog.push.Goals as goal

pub start-a-requires : goal.start-a-requires
start-a-requires c = (c.requires.0.cataloged.fits, c.requires.0.kind)

pub overflow_mul-cap : goal.overflow_mul-cap
overflow_mul-cap c = omega (arith, lent_inside c.args.work.now c.args.self c.args.kind c.start-a.result c.cap_of-cap.result c.start-a.ensures c.cap_of-cap.ensures c.requires.0.cataloged.fits c.requires.0.kind)

pub overflow_add-cap : goal.overflow_add-cap
overflow_add-cap c = omega (arith, lent_inside c.args.work.now c.args.self c.args.kind c.start-a.result c.cap_of-cap.result c.start-a.ensures c.cap_of-cap.ensures c.requires.0.cataloged.fits c.requires.0.kind)

pub overflow_add-a : goal.overflow_add-a
overflow_add-a c = omega (arith, lent_inside c.args.work.now c.args.self c.args.kind c.start-a.result c.cap_of-cap.result c.start-a.ensures c.cap_of-cap.ensures c.requires.0.cataloged.fits c.requires.0.kind)

pub offset_bounds-work-a : goal.offset_bounds-work-a
offset_bounds-work-a c = omega (arith, lent_inside c.args.work.now c.args.self c.args.kind c.start-a.result c.cap_of-cap.result c.start-a.ensures c.cap_of-cap.ensures c.requires.0.cataloged.fits c.requires.0.kind)

pub slice_bounds-push-end : goal.slice_bounds-push-end
slice_bounds-push-end c = omega (arith, lent_inside c.args.work.now c.args.self c.args.kind c.start-a.result c.cap_of-cap.result c.start-a.ensures c.cap_of-cap.ensures c.requires.0.cataloged.fits c.requires.0.kind)

pub push-requires : goal.push-requires
push-requires c =
    let a = c.args in
    let E = c.requires.0 in
    lent a.work.now a.self a.kind c.start-a.result c.cap_of-cap.result c.start-a.ensures c.cap_of-cap.ensures
    (λ x n. Kept a.pack.now x n × Entering a.pack.now x n (record { at = a.at; from = a.from }))
    (E.cataloged.kept a.kind E.kind, entering_in _ _ _ _ _ E)

pub returns : goal.returns
returns c =
    let a = c.args in
    let E = c.requires.0 in
    let r = c.push.new.region in
    let P = unlent a.work.now a.self a.kind c.start-a.result c.cap_of-cap.result c.start-a.ensures c.cap_of-cap.ensures (λ x n. (places r ≡ places x ++ (record { at = a.at; from = a.from } ∷ [])) × Kept a.pack.now r n) c.push.ensures in
    subst (λ (w : List ℕ). More a.pack.now a.work.now w a.self a.kind (record { at = a.at; from = a.from }))
    (sym (lent-put a.work.now a.self a.kind c.start-a.result c.cap_of-cap.result c.start-a.ensures c.cap_of-cap.ensures r))
    (pushed_in a.pack.now a.work.now a.self E.cataloged a.kind E.kind r (record { at = a.at; from = a.from }) c.requires.1 P.0 P.1)
