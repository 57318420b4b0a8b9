-- `begin_chains` meets its contract.
use Rattle.emit_state.specs.Frame.{laid_on}
use Rattle.emit_state.specs.Begun.{sorts_few, symbols_few, rules_few, rules_laid, constructors_laid, chains_made}
use Rattle.emit_state.proofs.begin.begin_chains.Goals as goal

pub chain_rules-requires : goal.chain_rules-requires
chain_rules-requires c =
    let p = c.requires in
    rw c.rules.ensures (p.0, rules_laid _ _ p.1, symbols_few _ _ c.args.l p.0, rules_few _ _ c.args.l p.0)

pub chain_constructors-requires : goal.chain_constructors-requires
chain_constructors-requires c =
    let p = c.requires in
    let l = c.args.l in
    let made = c.chain_rules.ensures in
    let H = made.chained.held in
    rw c.constructors.ensures (H, constructors_laid _ _ (laid_on l _ _ p.1 c.chain_rules.auto.work), sorts_few _ _ l H, symbols_few _ _ l H)

pub returns : goal.returns
returns c =
    let p = c.requires in
    let r = c.rules.ensures in
    let k = c.constructors.ensures in
    let made = rw r at c.chain_rules.ensures in
    let more = rw k at c.chain_constructors.ensures in
    chains_made _ _ _ _ c.args.l p.0.cataloged p.1 made.chained made.frame more.chained more.frame
