-- `take_next` meets its contract.
use Rattle.std.proofs.lemmas.Result.{err_from_is_err_and}
use native.Mathlib.Omega.{arith}
use lib.ListN.{length-drop}
use Rattle.pack_reader.specs.Walk.{walking_sound, no_record, whole, went_on, went_wrong}
use Rattle.pack_reader.proofs.next.take_next.Goals as goal

pub overflow_add-body : goal.overflow_add-body
overflow_add-body c = let p = c.requires in let H = rw c.in-Some.is at p.heads in omega (arith, H.2, length-drop c.args.at c.args.pack.now, p.some_left, p.walking.reading.short)

pub slice_bounds-body-count : goal.slice_bounds-body-count
slice_bounds-body-count c = let p = c.requires in let H = rw c.in-Some.is at p.heads in omega (arith, H.1)

pub slice_bounds-body-start : goal.slice_bounds-body-start
slice_bounds-body-start c = let p = c.requires in let H = rw c.in-Some.is at p.heads in omega (arith, H.1)

pub slice_bounds-body-end : goal.slice_bounds-body-end
slice_bounds-body-end c = let p = c.requires in let H = rw c.in-Some.is at p.heads in omega (arith, H.2, length-drop c.args.at c.args.pack.now, p.some_left)

pub take_record-requires : goal.take_record-requires
take_record-requires c =
    let p = c.requires in
    let H = rw c.in-Some.is at p.heads in
    (p.walking.reading, whole _ _ _ _ _ p.walking _ _ H, walking_sound _ _ _ _ _ p.walking, p.walking.marks)

pub returns-in_default : goal.returns-in_default
returns-in_default c = let p = c.requires in no_record _ _ _ _ _ p.walking p.some_left (rw c.in_default.is at p.heads)

pub returns-in_err-take_record : goal.returns-in_err-take_record
returns-in_err-take_record c =
    let p = c.requires in
    let e = err_from_is_err_and c.from_residual.result c.from_residual.ensures.1 in
    rw (e.1, e.2) (went_wrong _ _ _ _ _ p.walking _ _ (rw c.in-Some.is at p.heads) c.take_record.new.work _ c.in_err-take_record.ensures)

pub returns : goal.returns
returns c = let p = c.requires in (went_on _ _ _ _ _ p.walking _ _ (rw c.in-Some.is at p.heads) _ c.take_record.result c.take_record.ensures).0 c.in_ok-take_record.was
