-- The search's two loops in code: what each turn asks, and what it leaves, for every state that the buffers held at first.
use Rattle.std.proofs.Common.{subst, arith, length-set}
use Rattle.std.specs.Prelude.{List, [], ℕ, ◌+◌, ◌-◌, ◌*◌, ◌^◌, ◌≤◌, ◌<◌, length, get_or, set}
use Rattle.definition.specs.Pack.{prop, most_premises}
use Rattle.definition.specs.Run.{outcome}
use Rattle.definition.specs.declared.Refusal.{Refusal}
use Rattle.emission.specs.State.{Emitter}
use Rattle.emission.specs.Words.{step}
use Rattle.emission.specs.Prove.{by_rule, chain, prove}
use Rattle.emit_theory.specs.Search.Proving.{Has, Judged}
use Rattle.emit_state.specs.Places.{rules_of, Laid}
use Rattle.emit_state.specs.Holding.{Buffers, World, levels, Ready, Asked, Comes, Answers}
use Rattle.emit_state.specs.declared.places.Places.{Places}
use Rattle.emit_state.specs.declared.standing.Standing.{Standing}
use Rattle.emit_state.specs.declared.standing.Proved.{Proved}
use Rattle.emit_state.specs.declared.standing.Proved.TheVariants.{Line, Fails, Refused}
use Rattle.emit_search.specs.Trying.{deeper, finishing, AskedByRule, AnswersRule, AskedAll, AnswersAll}
use Rattle.emit_chains.specs.Follow.{no_number, FirstOf, NextOf}
use Rattle.emit_search.specs.Rules.{head_in}
use Rattle.emit_search.specs.RulesLeft.{RulesLeft, rules-none, rules-got, rules-refused, rules_on}
use Rattle.emit_search.specs.Predicate.{rules-first}
use Rattle.emit_search.specs.PremisesLeft.{PremisesLeft, premises-first, premises-all, premise_asked, premises-lost, premises-refused, premises_on}
use Rattle.emit_search.specs.Asking.{rules-room, rules_few, asked-head}
use Rattle.emit_search.specs.Answering.{grown_then, one_deeper}

-- ---- rules
pub record RulesGo (b₀ b : Buffers) (l : Places) (m t : Standing) (j depth r : ℕ) : Type 0 where
  pub grown : m.store.len ≤ t.store.len
  pub left : (w : World) (e : Emitter) → Ready b₀ l m w e → Has w.setting e prop j → RulesLeft b l t w depth j r (outcome w.lent (chain w.setting (deeper w depth) j e))

-- the first
pub rules_go : (b : Buffers) (l : Places) (m : Standing) (j depth r : ℕ) → FirstOf b.work (rules_of l) (head_in b.pattern m.store j) r → RulesGo b b l m m j depth r
rules_go b l m j depth r F = record { grown = omega arith; left = λ w e R h. rules-first b l m w e depth j r R h (rules_few b l m w e R.holding) (asked-head b l m w e R j h) F }

module _ (b₀ b : Buffers) (l : Places) (m t : Standing) (j depth r : ℕ) (G : RulesGo b₀ b l m t j depth r) where
  -- none is left
  pub rules-end : no_number ≤ r → Answers b₀ b l m j (λ w. chain w.setting (deeper w depth) j) (Fails t)
  rules-end k = record { grown = G.grown; comes = λ w e R h. rules-none b l t w depth j r _ (G.left w e R h) k (rules_few b₀ l m w e R.holding) }

  module _ (k : r < no_number) where
    pub rule-asked : Asked b₀ l m j → AskedByRule b l t j r
    rule-asked A =
        let L = G.left A.world A.state A.ready A.has in
        record { world = A.world; state = L.state; ready = L.ready; has = L.has; rule = (L.from.here k).0 }

    pub rules-line : (b' : Buffers) (u : Standing) (n : ℕ) → AnswersRule b b' l t j r (λ w. by_rule w.setting (deeper w depth) j r) (Line u n) → Answers b₀ b' l m j (λ w. chain w.setting (deeper w depth) j) (Line u n)
    rules-line b' u n E = record {
      grown = omega (arith, G.grown, E.grown);
      comes = λ w e R h. let L = G.left w e R h in rules-got b l t w depth j r _ L k b' u n (E.comes w L.state L.ready L.has (L.from.here k).0);
    }

    pub rules_short : (b' : Buffers) (x : Refusal) → AnswersRule b b' l t j r (λ w. by_rule w.setting (deeper w depth) j r) (Refused x) → Answers b₀ b' l m j (λ w. chain w.setting (deeper w depth) j) (Refused x)
    rules_short b' x E = record { grown = tt; comes = λ w e R h. let L = G.left w e R h in rules-refused b l t w depth j r _ L k b' t x (E.comes w L.state L.ready L.has (L.from.here k).0) }

    module _ (b' : Buffers) (u : Standing) (E : AnswersRule b b' l t j r (λ w. by_rule w.setting (deeper w depth) j r) (Fails u)) where
      pub next-asked : Asked b₀ l m j → Laid b'.work l × (r < l.hand.catalog.cap)
      next-asked A =
          let L = G.left A.world A.state A.ready A.has in
          let C = E.comes A.world L.state L.ready L.has (L.from.here k).0 in
          (C.2.laid, omega (arith, (L.from.here k).0, rules-room b' l u A.world C.0 C.2))

      module _ (r' : ℕ) (N : NextOf b'.work (rules_of l) r r') where
        pub rules_less : Asked b₀ l m j → no_number - r' < no_number - r
        rules_less A =
            let L = G.left A.world A.state A.ready A.has in
            let h = L.from.here k in
            let C = E.comes A.world L.state L.ready L.has h.0 in
            let n = (N.next _ _ _ (rules_few b' l u A.world C.0 C.2) L.small C.2.rules h.0 h.1).1 in
            omega arith

        pub rules_go_on : RulesGo b₀ b' l m u j depth r'
        rules_go_on = record {
          grown = omega (arith, G.grown, E.grown);
          left = λ w e R h.
              let L = G.left w e R h in
              let q = L.from.here k in
              let C = E.comes w L.state L.ready L.has q.0 in
              rules_on b l t w depth j r _ L k b' u r' C (N.next _ _ _ (rules_few b' l u w C.0 C.2) L.small C.2.rules q.0 q.1).0;
        }

-- ---- premises
pub record PremisesGo (b₀ b : Buffers) (l : Places) (m t : Standing) (j r depth : ℕ) (qs₀ qs : List ℕ) (i : ℕ) : Type 0 where
  pub grown : m.store.len ≤ t.store.len
  pub few : length qs ≤ most_premises
  pub left : (w : World) (e : Emitter) → Ready b₀ l m w e → Has w.setting e prop j → Judged w.setting e qs₀ → PremisesLeft b l t w depth j r qs i (outcome w.lent (finishing w.setting (deeper w depth) j r qs₀ [] e))

-- none has given way
pub premises_go : (b : Buffers) (l : Places) (m : Standing) (j r depth : ℕ) (qs : List ℕ) → length qs ≤ most_premises → PremisesGo b b l m m j r depth qs qs 0
premises_go b l m j r depth qs few = record { grown = omega arith; few = few; left = λ w e R h J. premises-first b l m w e depth j r qs R h J }

module _ (b₀ b : Buffers) (l : Places) (m t : Standing) (j r depth : ℕ) (qs₀ qs : List ℕ) (i : ℕ) (G : PremisesGo b₀ b l m t j r depth qs₀ qs i) where
  -- all have
  pub step-asked : AskedAll b₀ l m j qs₀ → Asked b l t j
  step-asked A =
      let L = G.left A.world A.state A.ready A.has A.judged in
      record { world = A.world; state = L.state; ready = L.ready; has = L.has }

  pub premises-end : length qs ≤ i → (b' : Buffers) (o : Proved) → Answers b b' l t j (λ w. step w.setting r qs j) o → AnswersAll b₀ b' l m j qs₀ (λ w. finishing w.setting (deeper w depth) j r qs₀ []) o
  premises-end k b' o E = record {
    grown = grown_then m t o G.grown E.grown;
    comes = λ w e R h J. let L = G.left w e R h J in subst (λ x. Comes b' l w x o) (premises-all b l t w depth j r qs i _ L k) (E.comes w L.state L.ready L.has);
  }

  module _ (k : i < length qs) where
    pub deeper-asked : AskedAll b₀ l m j qs₀ → Asked b l t (get_or qs i 0)
    deeper-asked A =
        let L = G.left A.world A.state A.ready A.has A.judged in
        record { world = A.world; state = L.state; ready = L.ready; has = premise_asked b l t A.world depth j r qs i _ L k }

    -- places are few
    pub few_bytes : i * 4 < 2 ^ 64
    few_bytes = omega (arith, G.few)

    pub few_more : i + 1 < 2 ^ 64
    few_more = omega (arith, G.few)

    module _ (d : depth < levels) (b' : Buffers) where
      pub premises-fail : (u : Standing) → Answers b b' l t (get_or qs i 0) (λ w. prove (levels - (depth + 1)) w.setting w.hyps (get_or qs i 0)) (Fails u) → AnswersAll b₀ b' l m j qs₀ (λ w. finishing w.setting (deeper w depth) j r qs₀ []) (Fails u)
      premises-fail u E = record {
        grown = omega (arith, G.grown, E.grown);
        comes = λ w e R h J.
            let L = G.left w e R h J in
            premises-lost b l t w depth j r qs i _ L k b' u (one_deeper b' l w depth (get_or qs i 0) L.state (Fails u) d (E.comes w L.state L.ready (premise_asked b l t w depth j r qs i _ L k)));
      }

      pub premises_short : (x : Refusal) → Answers b b' l t (get_or qs i 0) (λ w. prove (levels - (depth + 1)) w.setting w.hyps (get_or qs i 0)) (Refused x) → AnswersAll b₀ b' l m j qs₀ (λ w. finishing w.setting (deeper w depth) j r qs₀ []) (Refused x)
      premises_short x E = record {
        grown = tt;
        comes = λ w e R h J.
            let L = G.left w e R h J in
            premises-refused b l t w depth j r qs i _ L k x (one_deeper b' l w depth (get_or qs i 0) L.state (Refused x) d (E.comes w L.state L.ready (premise_asked b l t w depth j r qs i _ L k)));
      }

      pub premises_go_on : (u : Standing) (n : ℕ) → Answers b b' l t (get_or qs i 0) (λ w. prove (levels - (depth + 1)) w.setting w.hyps (get_or qs i 0)) (Line u n) → PremisesGo b₀ b' l m u j r depth qs₀ (set qs i n) (i + 1)
      premises_go_on u n E = record {
        grown = omega (arith, G.grown, E.grown);
        few = omega (arith, G.few, length-set qs i n);
        left = λ w e R h J.
            let L = G.left w e R h J in
            premises_on b l t w depth j r qs i _ L k b' u n (one_deeper b' l w depth (get_or qs i 0) L.state (Line u n) d (E.comes w L.state L.ready (premise_asked b l t w depth j r qs i _ L k)));
      }
