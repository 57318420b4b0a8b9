use mathlib.Core.Path.{◌≡◌}
use Prim.Native.Nat.{◌+◌, ◌*◌, ◌-◌}
use lib.ListN.{length}
use Rattle.emit_state.specs.Holding.{lends}
use Rattle.emit_search.specs.Going.{RulesGo, PremisesGo}
use Rattle.emit_search.proofs.prove.+by_rule_chain_prove_all_prove_premise.Given as goal

abbrev pub decreases-by_rule : goal.decreases-by_rule
decreases-by_rule l = 4 * (4097 - l.depth) + 1

abbrev pub decreases-chain : goal.decreases-chain
decreases-chain l = 4 * (4097 - l.depth) + 2

abbrev pub decreases-prove_all : goal.decreases-prove_all
decreases-prove_all l = 4 * (4097 - l.depth)

abbrev pub decreases-prove_premise : goal.decreases-prove_premise
decreases-prove_premise l = 4 * (4097 - l.depth) + 3

abbrev pub invariant-chain-loop-r : goal.invariant-chain-loop-r
invariant-chain-loop-r l =
    (length l.work ≡ length l.initial.work)
    × (length l.words ≡ length l.initial.words)
    × (length l.proof ≡ length l.initial.proof)
    × RulesGo (lends l.pack l.initial.work l.initial.words l.initial.proof) (lends l.pack l.work l.words l.proof) l.l l.initial.t l.t l.j l.depth l.r

abbrev pub decreases-chain-loop-r : goal.decreases-chain-loop-r
decreases-chain-loop-r l = 4096 - l.r

abbrev pub invariant-prove_all-loop-i : goal.invariant-prove_all-loop-i
invariant-prove_all-loop-i l =
    (length l.work ≡ length l.initial.work)
    × (length l.words ≡ length l.initial.words)
    × (length l.proof ≡ length l.initial.proof)
    × (length l.qs ≡ length l.initial.qs)
    × PremisesGo (lends l.pack l.initial.work l.initial.words l.initial.proof) (lends l.pack l.work l.words l.proof) l.l l.initial.t l.t l.j l.r l.depth l.initial.qs l.qs l.i

abbrev pub decreases-prove_all-loop-i : goal.decreases-prove_all-loop-i
decreases-prove_all-loop-i l = length l.initial.qs - l.i
