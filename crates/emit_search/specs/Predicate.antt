-- The rules of a predicate as the definition lists them are the numbers with its key.
use Rattle.std.specs.Prelude.{◌≡◌, refl, true, false, List, [], ◌∷◌, ℕ, suc, ◌+◌, ◌≤◌, ◌<◌, eqb, length, get_or}
use Rattle.std.proofs.Common.{sym, ap, ◌∙◌, arith}
use Rattle.definition.specs.Test.{is, see}
use Rattle.definition.specs.Pack.{prop, Term, var, app, Rule, Pack, no_node, no_rule as missing, rule_of}
use Rattle.definition.specs.Good.{Below, Sorted}
use Rattle.definition.proofs.Laws.Grow.{below_at}
use Rattle.definition.specs.Run.{outcome}
use Rattle.pack_read.specs.Held.{Proper}
use Rattle.emission.specs.State.{Emitter}
use Rattle.emission.specs.Patterns.{has_head, rules_for}
use Rattle.emission.specs.Words.{pattern_of}
use Rattle.emission.specs.Prove.{by_rules, chain}
use Rattle.emit_theory.specs.Search.Proving.{Has}
use Rattle.emit_chains.specs.Chain.{keyed}
use Rattle.emit_chains.specs.Head.{top_of}
use Rattle.emit_state.specs.Places.{rules_of}
use Rattle.emit_state.specs.Holding.{Buffers, World, Ready}
use Rattle.emit_state.specs.declared.places.Places.{Places}
use Rattle.emit_state.specs.declared.standing.Standing.{Standing}
use Rattle.emit_search.specs.Trying.{deeper}
use Rattle.emit_chains.specs.Follow.{no_number, FirstOf}
use Rattle.emit_search.specs.Rules.{head_in}
use Rattle.emit_search.specs.RulesLeft.{rule_key, RulesLeft}

-- a judgment has a symbol on top
head-key : (P : Pack) (vars : List ℕ) → Below (length P.sorts) vars → length P.sorts ≤ 256 → (t : Term) → Sorted P vars t prop → (p : ℕ) → has_head p t ≡ eqb (top_of t) p
unfolding has_head top_of
head-key P vars b few (var k) S p = absurd (omega (arith, below_at (length P.sorts) vars k b S.0, S.1, few))
head-key P vars b few (app h ts) S p = refl

-- the rules from number i on
listed : (p : ℕ) (rs : List Rule) (i : ℕ) (key : ℕ → ℕ) → ((k : ℕ) → k < length rs → has_head p (get_or rs k missing).conclusion ≡ eqb (key (i + k)) p) → rules_for p rs i ≡ keyed key p i (length rs)
unfolding rules_for keyed
listed p [] i key f = refl
listed p (r ∷ rs) i key f =
    let e : i + 0 ≡ i = omega arith in
    let here : has_head p r.conclusion ≡ eqb (key i) p = f 0 (omega arith) ∙ ap (λ (n : ℕ). eqb (key n) p) e in
    let rest = listed p rs (suc i) key (λ k l. let q : i + suc k ≡ suc i + k = omega arith in f (suc k) (omega arith) ∙ ap (λ (n : ℕ). eqb (key n) p) q) in
    elim (see (eqb (key i) p)) [
      | is true z ↦ rw (here ∙ z, z, rules_for, keyed) (ap (λ (l : List ℕ). i ∷ l) rest)
      | is false z ↦ rw (here ∙ z, z, rules_for, keyed) rest
    ]

-- all rules of a predicate
pub rules-keyed : (P : Pack) → Proper P → (p : ℕ) → rules_for p P.rules 0 ≡ keyed (rule_key P) p 0 (length P.rules)
unfolding rule_of
rules-keyed P Q p = listed p P.rules 0 (rule_key P) (λ k l. let z : k ≡ 0 + k = omega arith in head-key P (rule_of P k).vars (Q.good.rules k l).vars Q.few.sorts (rule_of P k).conclusion (Q.good.rules k l).conclusion p ∙ ap (λ (n : ℕ). eqb (rule_key P n) p) z)

-- the loop begins with the first of them
pub rules-first : (b : Buffers) (l : Places) (m : Standing) (w : World) (e : Emitter) (depth j r : ℕ) → Ready b l m w e → Has w.setting e prop j → length w.setting.pack.rules ≤ no_number → head_in b.pattern m.store j < l.hand.catalog.cap
    → FirstOf b.work (rules_of l) (head_in b.pattern m.store j) r → RulesLeft b l m w depth j r (outcome w.lent (chain w.setting (deeper w depth) j e))
unfolding chain
rules-first b l m w e depth j r R h few small F =
    let H = R.holding in
    let P = w.setting.pack in
    let p = head_in b.pattern m.store j in
    let same : p ≡ (pattern_of e j).head = ap (λ s. (get_or s j no_node).head) H.nodes_are in
    let all : keyed (rule_key P) p 0 (length P.rules) ≡ rules_for (pattern_of e j).head P.rules 0 = sym (rules-keyed P H.proper p) ∙ ap (λ (q : ℕ). rules_for q P.rules 0) same in
    record {
      state = e;
      ready = R;
      has = h;
      head = p;
      small = small;
      rules = keyed (rule_key P) p 0 (length P.rules);
      from = F.first (rule_key P) (length P.rules) few H.rules;
      rest = ap (λ (rs : List ℕ). outcome w.lent (by_rules w.setting (deeper w depth) j rs e)) all;
    }
