-- `put_words` meets its contract: with each turn one word more is there.
use mathlib.Core.Path.{ap, sym, ◌∙◌}
use mathlib.Core.List.{List, map}
use Prim.Native.Nat.{ℕ}
use native.Mathlib.Omega.{arith}
use lib.ListN.{take}
use lib.Seq.{take_all}
use Rattle.emission.specs.Name.{name_with}
use Rattle.emission.specs.Text.{blanked}
use Rattle.emission.specs.Render.{word_text}
use Rattle.text_write.specs.Written.{adds_none, adds_then, adds_as}
use Rattle.emit_lines.specs.Side.{blanked-next}
use Rattle.emit_lines.specs.Words.{word_in, words_each}
use Rattle.emit_lines.proofs.word.put_words.Goals as goal

pub loop-w-init : goal.loop-w-init
unfolding blanked
loop-w-init c = λ P R. adds_none _ _

pub put_blanked_word-end-requires : goal.put_blanked_word-end-requires
put_blanked_word-end-requires c = c.requires

pub loop-w-preserved : goal.loop-w-preserved
loop-w-preserved c =
    let g = c.loop-w in
    let a = c.args in
    let s = a.words.now in
    λ P R. let f : ℕ → List ℕ = λ w. word_text P (name_with a.s.name) (word_in w) in adds_as _ _ _ _ _ _ (blanked-next f s g.w-index c.loop-w-test.true) (adds_then _ _ _ _ _ _ (blanked (map f (take g.w-index s))) _ (g.invariant P R) (c.put_blanked_word-end.ensures P R))

pub returns : goal.returns
returns c = λ P R.
    let g = c.loop-w in
    let a = c.args in
    let s = a.words.now in
    let f = word_text P (name_with a.s.name) in
    adds_as _ _ _ _ _ _ (ap (λ (l : List ℕ). blanked (map (λ w. f (word_in w)) l)) (take_all g.w-index s (omega (arith, c.loop-w-test.false))) ∙ ap blanked (sym (words_each f s))) (g.invariant P R)
