-- `put_over` meets its contract.
use Rattle.definition.specs.Ascii.{bytes}
use Rattle.emission.specs.Render.{over_words}
use Rattle.text_write.specs.Written.{adds_then}
use Rattle.emit_lines.proofs.word.put_over.Goals as goal

pub put_symbol-symbol-requires : goal.put_symbol-symbol-requires
put_symbol-symbol-requires c = c.requires

pub put_words-list-requires : goal.put_words-list-requires
put_words-list-requires c = c.requires

pub returns : goal.returns
unfolding bytes over_words
returns c = λ P R.
    adds_then _ _ _ _ _ _ _ _ c.put_byte-bracket.ensures.byte
    (adds_then _ _ _ _ _ _ _ _ (c.put_symbol-symbol.ensures P R)
    (adds_then _ _ _ _ _ _ _ _ (c.put_words-list.ensures P R) c.put_byte.ensures.byte))
