-- `search_node` meets its contract.
use Rattle.host_search.specs.Opened.{asking_held, asking_sized, asking_inside, asking_low, asking_node}
use Rattle.host_search.specs.Ends.{refused_as}
use Rattle.definition.specs.Answer.{answer}
use Rattle.definition.specs.declared.Refusal.TheVariants.{Short as ShortOf}
use Rattle.host_search.specs.Calls.{node_short, node_begins, node-sought}
use mathlib.Core.Path.{◌∙◌}
use Rattle.host_search.proofs.search.search_node.Goals as goal

pub lifting-l-requires : goal.lifting-l-requires
lifting-l-requires c = asking_sized c.args.pack.now c.args.work.now c.args.words.now _ c.args.c c.args.q c.requires

pub open_store-empty-requires : goal.open_store-empty-requires
open_store-empty-requires c =
    let L = c.lifting-l.ensures in
    let I = asking_inside c.args.pack.now c.args.work.now c.args.words.now _ c.args.c c.args.q c.requires _ L in
    (asking_held c.args.pack.now c.args.work.now c.args.words.now _ c.args.c c.args.q c.requires, L, I.0, I.1)

pub intern_judgment-requires : goal.intern_judgment-requires
intern_judgment-requires c =
    let L = c.lifting-l.ensures in
    let T = c.open_store-empty.ensures in
    (T.lifts, T.empty, asking_node c.args.pack.now c.args.work.now c.args.words.now _ c.args.c c.args.q c.requires _ L)

pub places_for-places-requires : goal.places_for-places-requires
places_for-places-requires c =
    asking_low c.args.pack.now c.args.work.now c.args.words.now _ c.args.c c.args.q c.requires _ c.lifting-l.ensures

pub search_from-requires : goal.search_from-requires
search_from-requires c =
    let i = c.intern_judgment in
    let J = rw c.in-Some.is at i.ensures in
    rw c.places_for-places.ensures
    (node_begins c.args.pack.now c.args.work.now c.args.words.now _ c.args.c c.args.q c.requires _ c.lifting-l.ensures _ _ c.open_store-empty.ensures _ _ i.auto.words _ _ J)

pub returns : goal.returns
returns c =
    let i = c.intern_judgment in
    let J = rw c.in-Some.is at i.ensures in
    node-sought c.args.pack.now c.args.work.now c.args.words.now _ c.args.c c.args.q c.requires _ c.lifting-l.ensures _ _ c.open_store-empty.ensures _ _ i.auto.words _ _ J _ c.search_from.result
    (rw c.places_for-places.ensures at c.search_from.ensures)

pub returns-in_default : goal.returns-in_default
unfolding answer
returns-in_default c =
    let i = c.intern_judgment in
    let J = rw c.in_default.is at i.ensures in
    node_short c.args.pack.now c.args.work.now c.args.words.now _ c.args.c c.args.q c.requires _ c.lifting-l.ensures _ _ c.open_store-empty.ensures i.new.work i.new.words i.auto.words J c.args.proof.now _ (refused_as (ShortOf 2) c.outcome_answer.result c.outcome_answer.ensures)
