-- `read_variable` meets its contract.
use mathlib.Core.Path.{sym, ◌∙◌}
use Rattle.term_readback.specs.Ways.{opening_asking, opening_so, gives_so}
use Rattle.term_readback.specs.Roots.{Named, Fixed}
use Rattle.term_readback.proofs.root.read_variable.Goals as goal

pub numbers-requires : goal.numbers-requires
numbers-requires c = opening_asking _ _ _ _ _ _ _ _ _ _ _ _ _ c.requires

pub returns-then-numbers : goal.returns-then-numbers
returns-then-numbers c = let K = c.requires in gives_so _ _ _ _ _ _ _ _ _ _ _ _ _ K (Named c.args.s.everyone c.args.x.0) (λ h S v. (v, sym (c.numbers.ensures h S) ∙ c.if-numbers.true)) c.read_number.new.work c.read_number.new.words c.read_number.result (c.read_number.ensures _ _ _ (opening_so _ _ _ _ _ _ _ _ _ _ _ _ _ K _ (K.asked, sym (c.numbers.ensures K.graph K.holding.lies.stands.shows) ∙ c.if-numbers.true)))

pub returns : goal.returns
returns c = let K = c.requires in gives_so _ _ _ _ _ _ _ _ _ _ _ _ _ K (Fixed c.args.s.everyone c.args.x.0) (λ h S v. (v, sym (c.numbers.ensures h S) ∙ c.if-numbers.false)) c.read_value.new.work c.read_value.new.words c.read_value.result (c.read_value.ensures _ _ (opening_so _ _ _ _ _ _ _ _ _ _ _ _ _ K _ (K.asked, sym (c.numbers.ensures K.graph K.holding.lies.stands.shows) ∙ c.if-numbers.false)))
