-- The loop over a predicate's rules: what is left to do gives what the whole gives.
use Rattle.std.specs.Prelude.{◌≡◌, ℕ, suc, ◌-◌, ◌≤◌, ◌<◌}
use Rattle.std.proofs.Math.Path.{sym, ap}
use Rattle.std.proofs.Common.{◌∙◌}
use mathlib.Core.List.{List, [], ◌∷◌}
use Rattle.std.proofs.Math.Option.{none}
use native.Mathlib.Omega.{arith}
use Rattle.std.proofs.Math.ListN.{length}
use Rattle.definition.specs.Pack.{prop, Pack, rule_of}
use Rattle.definition.specs.Good.{Good, Few}
use Rattle.definition.specs.Frame.{Read, fine, refuse}
use Rattle.definition.specs.Run.{outcome, first_short}
use Rattle.definition.specs.declared.Refusal.{Refusal}
use Rattle.emission.specs.State.{Emitter, Tried, ◌or_else◌}
use Rattle.emission.specs.Prove.{by_rule, by_rules}
use Rattle.emit_theory.specs.Search.Proving.{Has, States, has_on, prove_comes, by_rule_comes}
use Rattle.emit_chains.specs.Chain.{keyed, keyed_here}
use Rattle.emit_chains.specs.Head.{top_of}
use Rattle.emit_state.specs.Holding.{Buffers, World, Ready, Comes}
use Rattle.emit_state.specs.Turns.{or-got, or-lost, or-refused}
use Rattle.emit_state.specs.Onward.{On, goes_on, ready_on}
use Rattle.emit_state.specs.declared.places.Places.{Places}
use Rattle.emit_state.specs.declared.standing.Standing.{Standing}
use Rattle.emit_state.specs.declared.standing.Proved.TheVariants.{Line, Fails}
use Rattle.emit_search.specs.Trying.{deeper}
use Rattle.emit_chains.specs.Follow.{no_number, FromNumber}

-- the predicate that a rule concludes
abbrev pub rule_key : Pack → ℕ → ℕ
rule_key P r = top_of (rule_of P r).conclusion

-- rules of the judgment's predicate that are left, and what was to be done
pub record RulesLeft (b : Buffers) (l : Places) (t : Standing) (w : World) (depth j r : ℕ) (whole : Read (Tried ℕ)) : Type 0 where
  pub state : Emitter
  pub ready : Ready b l t w state
  pub has : Has w.setting state prop j
  pub head : ℕ
  pub small : head < l.hand.catalog.cap
  pub rules : List ℕ
  pub from : FromNumber (rule_key w.setting.pack) (length w.setting.pack.rules) head r rules
  pub rest : outcome w.lent (by_rules w.setting (deeper w depth) j rules state) ≡ whole

-- a try one level deeper keeps a state sound
pub deeper_comes : (w : World) (good : Good w.setting.pack) (few : Few w.setting.pack) (depth : ℕ) → (j : ℕ) (r : ℕ) (e : Emitter) → r < length w.setting.pack.rules → (b : Buffers) (l : Places) (m : Standing) → Ready b l m w e
    → Has w.setting e prop j → (t : Tried ℕ) → outcome w.lent (by_rule w.setting (deeper w depth) j r e) ≡ fine t → On w.setting (States j) e t
deeper_comes w good few depth j r e h b l m R k t o =
    goes_on w.lent w.setting (States j) (by_rule w.setting (deeper w depth) j r) e t
    (by_rule_comes w.setting good few w.hyps (deeper w depth) (λ q e₁ s H g. prove_comes w.setting good few w.hyps (4096 - depth) q e₁ s H g) j r e h R.sound R.supposed k) o

module _ (b : Buffers) (l : Places) (t : Standing) (w : World) (depth j r : ℕ) (whole : Read (Tried ℕ)) (G : RulesLeft b l t w depth j r whole) where
  -- none is left
  pub rules-none : no_number ≤ r → length w.setting.pack.rules ≤ no_number → Comes b l w whole (Fails t)
  unfolding keyed by_rules outcome first_short
  rules-none k few =
      let z : length w.setting.pack.rules - r ≡ 0 = omega arith in
      let none_left : G.rules ≡ [] = sym G.from.rest ∙ ap (λ (n : ℕ). keyed (rule_key w.setting.pack) G.head r n) z in
      (G.state, sym G.rest ∙ ap (λ (rs : List ℕ). outcome w.lent (by_rules w.setting (deeper w depth) j rs G.state)) none_left, G.ready.holding)

  -- rule r, and those behind it
  rules-turn : r < no_number → G.rules ≡ r ∷ keyed (rule_key w.setting.pack) G.head (suc r) (length w.setting.pack.rules - suc r)
  rules-turn k =
      let h = G.from.here k in
      let n = length w.setting.pack.rules in
      let e : n - r ≡ suc (n - suc r) = omega (arith, h.0) in
      sym G.from.rest ∙ ap (λ (m : ℕ). keyed (rule_key w.setting.pack) G.head r m) e ∙ keyed_here (rule_key w.setting.pack) G.head r (n - suc r) h.1

  turn-rest : (k : r < no_number)
      → outcome w.lent ((by_rule w.setting (deeper w depth) j r or_else by_rules w.setting (deeper w depth) j (keyed (rule_key w.setting.pack) G.head (suc r) (length w.setting.pack.rules - suc r))) G.state) ≡ whole
  unfolding by_rules
  turn-rest k = sym (ap (λ (rs : List ℕ). outcome w.lent (by_rules w.setting (deeper w depth) j rs G.state)) (rules-turn k)) ∙ G.rest

  module _ (k : r < no_number) (b' : Buffers) (u : Standing) where
    -- the rule proves
    pub rules-got : (n : ℕ) → Comes b' l w (outcome w.lent (by_rule w.setting (deeper w depth) j r G.state)) (Line u n) → Comes b' l w whole (Line u n)
    rules-got n C = (C.0, sym (turn-rest k) ∙ or-got w.lent _ _ G.state n C.0 C.1, C.2)

    -- a buffer is short
    pub rules-refused : (x : Refusal) → outcome w.lent (by_rule w.setting (deeper w depth) j r G.state) ≡ refuse x → whole ≡ refuse x
    rules-refused x C = sym (turn-rest k) ∙ or-refused w.lent _ _ G.state x C

    -- it does not: the next
    pub rules_on : (r' : ℕ) → Comes b' l w (outcome w.lent (by_rule w.setting (deeper w depth) j r G.state)) (Fails u) → FromNumber (rule_key w.setting.pack) (length w.setting.pack.rules) G.head r' (keyed (rule_key w.setting.pack) G.head (suc r) (length w.setting.pack.rules - suc r))
        → RulesLeft b' l u w depth j r' whole
    rules_on r' C F =
        let P = G.ready.holding.proper in
        let O = deeper_comes w P.good P.few depth j r G.state (G.from.here k).0 b l t G.ready G.has (record { result = none; state = C.0 }) C.1 in
        record {
          state = C.0;
          ready = ready_on b b' l t u w G.state (States j) (record { result = none; state = C.0 }) G.ready O C.2;
          has = has_on w.setting G.state C.0 O.grew prop j G.has;
          head = G.head;
          small = G.small;
          rules = keyed (rule_key w.setting.pack) G.head (suc r) (length w.setting.pack.rules - suc r);
          from = F;
          rest = sym (or-lost w.lent _ _ G.state C.0 C.1) ∙ turn-rest k;
        }
