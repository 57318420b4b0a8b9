-- `put_words` meets its contract: with each turn one word more is there.
use mathlib.Core.List.{map}
use lib.ListN.{take}
use Rattle.emission.specs.Text.{blanked}
use Rattle.emission.specs.Render.{word_text}
use Rattle.emit_lines.specs.Words.{word_in, Puts}
use Rattle.emit_lines.proofs.word.put_words.Given as goal

abbrev pub invariant-loop-w : goal.invariant-loop-w
invariant-loop-w l = Puts l.pack l.work l.initial.text l.text l.s l.at (λ P L. blanked (map (λ w. word_text P L (word_in w)) (take l.w-index l.words))) l.end
