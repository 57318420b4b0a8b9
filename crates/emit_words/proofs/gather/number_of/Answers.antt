-- `number_of` meets its contract.
use Rattle.emit_words.specs.Gathering.{number_or}
use Rattle.emit_words.proofs.gather.number_of.Goals as goal

pub word_of-requires : goal.word_of-requires
word_of-requires c =
    c.requires

pub returns : goal.returns
returns c =
    rw c.unwrap_or.ensures (number_or _ _ _ _ _ _ c.word_of.ensures)
