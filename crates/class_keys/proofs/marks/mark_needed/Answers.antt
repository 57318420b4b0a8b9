-- `mark_needed` meets its contract.
use mathlib.Core.Path.{◌≡◌, sym, ap, subst, ◌∙◌}
use mathlib.Core.List.{List}
use Prim.Native.Nat.{ℕ, ◌-◌, ◌≤◌}
use native.Mathlib.Omega.{arith}
use lib.ListN.{length}
use Rattle.definition.specs.Keys.{needed}
use Rattle.base.specs.Part.{put}
use Rattle.base.specs.Outside.{Outside}
use Rattle.pack_read.specs.Reads.{length_steps}
use Rattle.pack_read.specs.Held.{OfHeld}
use Rattle.class_keys.specs.Marks.{Marked, mark_all, mark_below, result_steps}
use Rattle.class_keys.specs.Marking.{needed-marked, needed_outside}
use Rattle.class_keys.proofs.marks.mark_needed.Goals as goal

pub returns : goal.returns
returns c =
    let a = c.args in
    let p = c.requires in
    let H = p.0.placed.held in
    let zs = c.fill.new.self in
    let fits : c.count-n.result ≤ length a.marks.now = omega (arith, p.1, c.count-n.ensures) in
    let lasts : OfHeld a.pack.now a.work.now a.c (λ P. c.mark_steps.new.marks ≡ mark_below (length P.steps) P (mark_all (put 0 (c.count-n.result - 0) zs a.marks.now) (result_steps P))) =
    λ P R Q. c.mark_steps.ensures P R Q ∙ ap (mark_below (length P.steps) P) (c.mark_results.ensures P R Q) in record {
      marked = λ P R Q.
          subst (λ (ms : List ℕ). Marked (length P.steps) ms (needed P)) (sym (lasts P R Q))
          (needed-marked P Q c.count-n.result (c.count-n.ensures ∙ sym (length_steps _ _ P R)) a.marks.now zs fits (c.fill.ensures.after (λ y e. e)));
      frame = subst (λ (n : ℕ). Outside 0 n a.marks.now c.mark_steps.new.marks) c.count-n.ensures
          (subst (λ (ms : List ℕ). Outside 0 c.count-n.result a.marks.now ms) (sym (lasts H.pack H.reads H.proper))
          (needed_outside H.pack H.proper c.count-n.result (c.count-n.ensures ∙ sym (length_steps _ _ H.pack H.reads)) a.marks.now zs fits (c.fill.ensures.after (λ y e. e))));
    }
