-- `list` meets its contract: the lines with zeros behind them, or zeros alone.
use Rattle.list_records.specs.Added.{listed, unlisted}
use Rattle.list_records.proofs.list.Goals as goal

pub returns-in_default : goal.returns-in_default
returns-in_default c =
    let p = c.put_lines in
    unlisted c.args.text.now p.new.text _ _ c.in_default.ensures p.auto.text (c.fill.ensures.after (λ y e. e))

pub returns : goal.returns
returns c =
    let p = c.put_lines in
    listed c.args.text.now p.new.text _ _ _ c.in-Some.ensures p.auto.text c.fill_from.ensures
