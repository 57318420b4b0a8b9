-- `is_name` meets its contract.
use mathlib.Core.Path.{◌≡◌, sym, ◌∙◌}
use mathlib.Core.Bool.{true, false}
use borrow.Author.Rules.{rules}
use borrow.Author.Tests.{tests}
use Rattle.std.proofs.lemmas.Iterator.{cases_from_all, YieldsList-from_slice}
use Rattle.definition.specs.Theory.{name_byte}
use native.Mathlib.Omega.{arith}
use Rattle.pack_tables.specs.Name.{none_no, long_no, mark_no, name_is, bytes-tested}
use Rattle.pack_tables.proofs.name.is_name.Goals as goal

pub returns-then-name-gt-NAME : goal.returns-then-name-gt-NAME
returns-then-name-gt-NAME c = sym (long_no c.args.name.now (omega arith))

pub returns-then-name-eq63 : goal.returns-then-name-eq63
returns-then-name-eq63 c = sym (mark_no c.args.name.now c.if-name-eq63.true)

pub returns-then-is_empty : goal.returns-then-is_empty
returns-then-is_empty c = sym (none_no c.args.name.now (search (rules, tests)))

pub returns : goal.returns
returns c =
    let s = c.args.name.now in
    bytes-tested s c.all.result (cases_from_all _ _ _ (λ b. name_byte b ≡ true) (λ b. name_byte b ≡ false) c.all.ensures.ran (YieldsList-from_slice s cc) (λ x q k. search (rules, tests)) (λ x q k. search (rules, tests)))
    ∙ sym (name_is s (search (rules, tests)) (omega arith) c.if-name-eq63.false)
