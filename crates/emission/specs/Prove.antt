-- From `prove` and `chain`: a judgment is looked up, or proved by the first rule of its predicate all of whose premises are proved one
-- level deeper.
use Rattle.std.specs.Prelude.{List, [], ◌∷◌, ℕ, zero, suc}
use Rattle.std.proofs.Math.Option.{Option, none, some}
use Rattle.definition.specs.Pack.{rule_of}
use Rattle.definition.specs.Verdict.{Bound, value_of, matches}
use Rattle.definition.specs.Run.{Run}
use Rattle.emission.specs.State.{Emitter, Setting, Tried, ◌>>=◌, ◌or_else◌, from, give, fail, now, change, grown_to, having_proved}
use Rattle.emission.specs.Words.{pattern_of, step}
use Rattle.emission.specs.Patterns.{over, rules_for, build, build_all}

-- the line of a judgment that is proved, else of one that is supposed
unfoldable pub line_of : List Bound → Emitter → ℕ → Option ℕ
unfolding value_of
line_of hyps e j = elim (value_of j e.undone.proved) [ some n ↦ some n | none ↦ value_of j hyps ]

unfoldable pub look_up : List Bound → ℕ → Emitter → Run (Tried ℕ)
unfolding from line_of
look_up hyps j = λ e. from (line_of hyps e j) e

-- a chained judgment is kept as proved, but not under hypotheses
unfoldable pub keeping : List Bound → ℕ → ℕ → Emitter → Emitter
keeping [] j n e = having_proved j n e
keeping (h ∷ hs) j n e = e

-- a rule's premises, if its conclusion matches and gives each of their variables; patterns made on the way stay
unfoldable pub premises : Setting → ℕ → ℕ → Emitter → Run (Tried (List ℕ))
unfolding from grown_to matches rule_of build
premises S r j = do
  e ← now
  let rule = rule_of S.pack r
  env ← from (matches (over S.pack e.kept.store) rule.conclusion j [])
  let built = build_all rule.premises env e.kept.store
  _ ← grown_to built.store
  from built.numbers

-- judgments in their order; none at the first that isn't proved
unfoldable pub prove_all : (ℕ → Emitter → Run (Tried ℕ)) → List ℕ → Emitter → Run (Tried (List ℕ))
prove_all deeper [] = give []
prove_all deeper (q ∷ qs) = do
  n ← deeper q
  ns ← prove_all deeper qs
  give (n ∷ ns)

unfoldable pub by_rule : Setting → (ℕ → Emitter → Run (Tried ℕ)) → ℕ → ℕ → Emitter → Run (Tried ℕ)
unfolding premises prove_all step
by_rule S deeper j r = do
  qs ← premises S r j
  refs ← prove_all deeper qs
  step S r refs j

-- the first rule that proves; lines of premises that were proved in vain stay
unfoldable pub by_rules : Setting → (ℕ → Emitter → Run (Tried ℕ)) → ℕ → List ℕ → Emitter → Run (Tried ℕ)
unfolding by_rule
by_rules S deeper j [] = fail
by_rules S deeper j (r ∷ rs) = by_rule S deeper j r or_else by_rules S deeper j rs

unfoldable pub chain : Setting → (ℕ → Emitter → Run (Tried ℕ)) → ℕ → Emitter → Run (Tried ℕ)
unfolding by_rules rules_for
chain S deeper j = λ e. by_rules S deeper j (rules_for (pattern_of e j).head S.pack.rules 0) e

-- so many levels are left, the judgment's own included; "`prove` fails below depth 4,096", but looks up ahead of that
unfoldable pub prove : ℕ → Setting → List Bound → ℕ → Emitter → Run (Tried ℕ)
unfolding look_up chain keeping
prove zero S hyps j = look_up hyps j
prove (suc d) S hyps j = look_up hyps j or_else do
  n ← chain S (λ q. prove d S hyps q) j
  _ ← change (keeping hyps j n)
  give n
