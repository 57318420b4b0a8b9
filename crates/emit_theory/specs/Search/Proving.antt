-- `prove` and `chain` keep a state sound, and a line that they name states the judgment that was asked for.
use Rattle.std.specs.Prelude.{◌≡◌, refl, true, false, length, get_or}
use Rattle.std.proofs.Common.{sym, ap, ◌∙◌, arith}
use Rattle.std.proofs.Math.Path.{subst}
use mathlib.Core.List.{List, [], ◌∷◌}
use Rattle.std.proofs.Math.Option.{none, some}
use Prim.Native.Nat.{ℕ, zero, suc, ◌<◌}
use Rattle.definition.specs.Test.{is, see, never}
use Rattle.definition.specs.Pack.{prop, Terms, nil, cons, no_node, rule_of}
use Rattle.definition.specs.Good.{Below, SortedAll as SortedTerms, Judgments, Good, Few}
use Rattle.definition.specs.Verdict.{Bound, value_of, matches}
use Rattle.definition.specs.Store.{variable_node, is_variable}
use Rattle.emission.specs.State.{Emitter, Setting, Search, ◌>>=◌, from, give, change, grown_to}
use Rattle.emission.specs.Words.{pattern_of}
use Rattle.emission.specs.Patterns.{over as packOver, rules_for, build_all}
use Rattle.emission.specs.Prove.{line_of, look_up, keeping, premises, prove_all, by_rule, by_rules, chain, prove}
use Rattle.emission.specs.Induct.{case_number}
use Rattle.emission.specs.Begin.{eigen_number}
use Rattle.theory.specs.Copies.Copying.{pattern_sort}
use Rattle.theory.specs.Patterns.Sorted.{variable_is}
use Rattle.theory.specs.Patterns.Interned.{grows_none}
use Rattle.emit_theory.specs.Again.Prove.{rules-given}
use Rattle.emit_theory.specs.Spoken.{Spoken, is_L, named, over}
use Rattle.emit_theory.specs.Graph.Intern.{sort-node, node_sort, node_sort-variable}
use Rattle.emit_theory.specs.Patterns.{Of, AllOf, no_of, of_more, of_grows, all_of_grow}
use Rattle.emit_theory.specs.Search.Matching.{match_values, build_all_of}
use Rattle.emit_theory.specs.Sound.{Told, Each, Sound, Grew, grew_none, told_grows}
use Rattle.emit_theory.specs.Comes.{Comes, gives, fails, changes, from_comes, then_comes, or_comes, now_comes}
use Rattle.emit_theory.specs.Writes.{sound_proved, grown_comes}
use Rattle.emit_theory.specs.Search.Stating.{step_comes}

-- a pattern of a sort, in a state
abbrev pub Has : Setting → Emitter → ℕ → ℕ → Type 0
Has S e so p = Of S.pack S.eigen e.undone.names e.kept.store so p

abbrev pub HasAll : Setting → Emitter → List ℕ → List ℕ → Type 0
HasAll S e sorts ps = AllOf S.pack S.eigen e.undone.names e.kept.store sorts ps

-- a line that states a pattern, in a state
abbrev pub States : ℕ → ℕ → Emitter → Type 0
States p n e = Told e.undone.lines e.kept.store p n

module _ (S : Setting) where
  -- they stay so
  pub has_on : (a b : Emitter) → Grew a b → (so p : ℕ) → Has S a so p → Has S b so p
  has_on a b G so p h = of_grows S.pack S.eigen a.undone.names b.undone.names a.kept.store b.kept.store G.names G.store so p h

  pub has_all_on : (a b : Emitter) → Grew a b → (sorts ps : List ℕ) → HasAll S a sorts ps → HasAll S b sorts ps
  has_all_on a b G sorts ps h = all_of_grow S.pack S.eigen a.undone.names b.undone.names a.kept.store b.kept.store G.names G.store sorts ps h

pub states_on : (a b : Emitter) → Grew a b → (p n : ℕ) → States p n a → States p n b
states_on a b G p n T = told_grows a.undone.lines b.undone.lines a.kept.store b.kept.store G.lines G.store p n T

-- hypotheses that are stated
abbrev pub Supposed : List Bound → Emitter → Type 0
Supposed hyps e = Each (λ p n. States p n e) hyps

pub supposed_on : (a b : Emitter) → Grew a b → (hyps : List Bound) → Supposed hyps a → Supposed hyps b
supposed_on a b G hyps H p n h = states_on a b G p n (H p n h)

module _ (S : Setting) (e : Emitter) (s : Sound S e) where
  variable-sort : (p k so : ℕ) → get_or e.kept.store p no_node ≡ variable_node k so → pattern_sort S.pack e.kept.store p ≡ so
  variable-sort p k so n = sort-node S.pack e.kept.store p ∙ ap (node_sort S.pack) n ∙ node_sort-variable S.pack k so

  -- L's sort
  pub L_sort : pattern_sort S.pack e.kept.store S.eigen ≡ S.sort
  L_sort = variable-sort S.eigen eigen_number S.sort s.L_node

  -- L and the case variables
  pub L_variable : (p : ℕ) → p ≡ S.eigen → is_variable (get_or e.kept.store p no_node) ≡ true
  L_variable p i = variable_is (get_or e.kept.store p no_node) eigen_number S.sort (ap (λ q. get_or e.kept.store q no_node) i ∙ s.L_node)

  pub case_variable : (p k : ℕ) → value_of p e.undone.names ≡ some k → is_variable (get_or e.kept.store p no_node) ≡ true
  case_variable p k h = let N = s.names p k h in variable_is (get_or e.kept.store p no_node) (case_number k) N.sort N.node

  not-variable : (p : ℕ) → pattern_sort S.pack e.kept.store p ≡ prop → Spoken S.eigen e.undone.names e.kept.store p → is_variable (get_or e.kept.store p no_node) ≡ false
  not-variable _ q (is_L p i) = absurd (s.L_proper (sym (variable-sort p eigen_number S.sort (ap (λ x. get_or e.kept.store x no_node) i ∙ s.L_node)) ∙ q))
  not-variable _ q (named p k n) = let N = s.names p k n in absurd (N.proper (sym (variable-sort p (case_number k) N.sort N.node) ∙ q))
  not-variable _ q (over p l v args a k) = v

  -- a judgment is no variable
  pub judgment-applied : (p : ℕ) → Has S e prop p → is_variable (get_or e.kept.store p no_node) ≡ false
  judgment-applied p h = not-variable p h.sort h.spoken

-- as many judgments as terms
unfoldable pub props : Terms → List ℕ
props nil = []
props (cons t ts) = prop ∷ props ts

sorted_judgments : (S : Setting) (vars : List ℕ) (ts : Terms) → Judgments S.pack vars ts → SortedTerms S.pack vars ts (props ts)
unfolding props
sorted_judgments S vars nil h = tt
sorted_judgments S vars (cons t ts) h = (h.0, sorted_judgments S vars ts h.1)

-- patterns that are judgments
pub data Judged (S : Setting) (e : Emitter) : List ℕ → Type 0 where
  no_judgment : Judged S e []
  judged-more : (q : ℕ) (qs : List ℕ) → Has S e prop q → Judged S e qs → Judged S e (q ∷ qs)

pub judged_on : (S : Setting) (a b : Emitter) → Grew a b → (qs : List ℕ) → Judged S a qs → Judged S b qs
judged_on S a b G _ no_judgment = no_judgment
judged_on S a b G _ (judged-more q qs h hs) = judged-more q qs (has_on S a b G prop q h) (judged_on S a b G qs hs)

all-judged : (S : Setting) (e : Emitter) (ts : Terms) (qs : List ℕ) → HasAll S e (props ts) qs → Judged S e qs
unfolding props
all-judged S e nil _ no_of = no_judgment
all-judged S e (cons t ts) _ (of_more so q sorts qs h hs) = judged-more q qs h (all-judged S e ts qs hs)

module _ (S : Setting) (good : Good S.pack) (few : Few S.pack) where
  -- a rule's premises are judgments
  pub premises_comes : (r j : ℕ) (e : Emitter) → r < length S.pack.rules → Sound S e → Has S e prop j → Comes S (λ qs e₁. Judged S e₁ qs) (premises S r j) e
  unfolding premises
  premises_comes r j e l s h =
      let P = S.pack in
      let x = e.kept.store in
      let R = good.rules r l in
      let rule = rule_of P r in
      let Q : List ℕ → Emitter → Type 0 = λ qs e₁. Judged S e₁ qs in
      let m = matches (packOver P x) rule.conclusion j [] in
      now_comes S Q _ e s (then_comes S (λ env e₁. (e₁ ≡ e) × (m ≡ some env)) Q (from m) _ e (from_comes S _ m e s (λ env q. (refl, q)))
      (λ env e₁ g t q. subst (λ y. Comes S Q (grown_to (build_all rule.premises env x).store >>= λ _. from (build_all rule.premises env x).numbers) y) (sym q.0) (
      let F = match_values P few S.eigen e.undone.names rule.vars x s.sorted (L_variable S e s) (case_variable S e s) rule.conclusion prop j [] env R.conclusion h (λ k p z. never (cc)) q.1 in
      let B = build_all_of P few S.eigen e.undone.names rule.vars rule.premises (props rule.premises) env x s.sorted (sorted_judgments S rule.vars rule.premises R.premises) F in
      let built = build_all rule.premises env x in
      then_comes S _ Q (grown_to built.store) _ e (grown_comes S e s built.store B.grows B.sorted)
      (λ _ e₂ g₂ t₂ z. from_comes S Q built.numbers e₂ t₂ (λ qs y. all-judged S e₂ rule.premises qs (
      subst (λ u. AllOf P S.eigen u.names e₂.kept.store (props rule.premises) qs) (sym z.1) (subst (λ w. AllOf P S.eigen e.undone.names w (props rule.premises) qs) (sym z.0) (B.patterns qs y)))))
      )))

  -- tries one level deeper
  abbrev pub Deeper : (ℕ → Search ℕ) → List Bound → Type 0
  Deeper deeper hyps = (q : ℕ) (e : Emitter) → Sound S e → Supposed hyps e → Has S e prop q → Comes S (States q) (deeper q) e

  module _ (hyps : List Bound) (deeper : ℕ → Search ℕ) (D : Deeper deeper hyps) where
    -- judgments one behind the other
    all_comes : (qs : List ℕ) (e : Emitter) → Sound S e → Supposed hyps e → Judged S e qs → Comes S (λ ns e₁. Unit {0}) (prove_all deeper qs) e
    unfolding prove_all
    all_comes [] e s H Js = gives S _ [] e s tt
    all_comes (q ∷ qs) e s H (judged-more _ _ h hs) =
        then_comes S (States q) _ (deeper q) _ e (D q e s H h)
        (λ n e₁ g t T. then_comes S (λ ns e₂. Unit {0}) _ (prove_all deeper qs) _ e₁ (all_comes qs e₁ t (supposed_on e e₁ g hyps H) (judged_on S e e₁ g qs hs)) (λ ns e₂ _ u _. gives S _ (n ∷ ns) e₂ u tt))

    -- one rule
    pub by_rule_comes : (j r : ℕ) (e : Emitter) → r < length S.pack.rules → Sound S e → Supposed hyps e → Has S e prop j → Comes S (States j) (by_rule S deeper j r) e
    unfolding by_rule
    by_rule_comes j r e l s H h =
        then_comes S (λ qs e₁. Judged S e₁ qs) (States j) (premises S r j) _ e (premises_comes r j e l s h)
        (λ qs e₁ g t Js. then_comes S (λ ns e₂. Unit {0}) (States j) (prove_all deeper qs) _ e₁ (all_comes qs e₁ t (supposed_on e e₁ g hyps H) Js)
        (λ refs e₂ g₂ u _. let k = has_on S e₁ e₂ g₂ prop j (has_on S e e₁ g prop j h) in step_comes S r refs j e₂ u k.spoken (judgment-applied S e₂ u j k)))

    by_rules_comes : (j : ℕ) (rs : List ℕ) (e : Emitter) → Below (length S.pack.rules) rs → Sound S e → Supposed hyps e → Has S e prop j → Comes S (States j) (by_rules S deeper j rs) e
    unfolding by_rules
    by_rules_comes j [] e l s H h = fails S (States j) e s
    by_rules_comes j (r ∷ rs) e l s H h =
        or_comes S (States j) (by_rule S deeper j r) (by_rules S deeper j rs) e (by_rule_comes j r e l.0 s H h)
        (λ e₁ g t. by_rules_comes j rs e₁ l.1 t (supposed_on e e₁ g hyps H) (has_on S e e₁ g prop j h))

    -- by a rule
    pub chain_comes : (j : ℕ) (e : Emitter) → Sound S e → Supposed hyps e → Has S e prop j → Comes S (States j) (chain S deeper j) e
    unfolding chain
    chain_comes j e s H h =
        let rs = rules_for (pattern_of e j).head S.pack.rules 0 in
        let C = by_rules_comes j rs e (rules-given (pattern_of e j).head S.pack.rules 0 (length S.pack.rules) (omega arith)) s H h in
        record { notes = C.notes; result = C.result; state = C.state; is_so = C.is_so; grew = C.grew; sound = C.sound; holds = C.holds }

  module _ (hyps : List Bound) where
    look_comes : (j : ℕ) (e : Emitter) → Sound S e → Supposed hyps e → Comes S (States j) (look_up hyps j) e
    unfolding look_up line_of
    look_comes j e s H =
        let C = from_comes S (States j) (line_of hyps e j) e s (λ n q. stated-line n q) in
        record { notes = C.notes; result = C.result; state = C.state; is_so = C.is_so; grew = C.grew; sound = C.sound; holds = C.holds }
      where
        stated-line : (n : ℕ) → line_of hyps e j ≡ some n → States j n e
        stated-line n q = elim (see (value_of j e.undone.proved)) [
          | is (some m) t ↦ s.proved j n (t ∙ (rw (t, line_of) at q))
          | is none t ↦ H j n (rw (t, line_of) at q)
        ]

    -- kept as proved, or not under hypotheses
    keep_comes : (hs : List Bound) (j n : ℕ) (e : Emitter) → Sound S e → States j n e → Comes S (States j) (change (keeping hs j n) >>= λ _. give n) e
    unfolding keeping
    keep_comes [] j n e s T =
        let f : Emitter → Emitter = keeping [] j n in
        then_comes S _ (States j) (change f) _ e (changes S f e (record { lines = grows_none e.undone.lines; store = grows_none e.kept.store; names = λ p k z. (k, z) }) (sound_proved S e s j n T))
        (λ _ e₁ g t q. gives S (States j) n e₁ t (states_on e e₁ g j n T))
    keep_comes (h ∷ hs) j n e s T = then_comes S _ (States j) (change (keeping (h ∷ hs) j n)) _ e (changes S (keeping (h ∷ hs) j n) e (grew_none e) s) (λ _ e₁ g t q. gives S (States j) n e₁ t (states_on e e₁ g j n T))

    -- a line that `prove` names states the judgment
    pub prove_comes : (d j : ℕ) (e : Emitter) → Sound S e → Supposed hyps e → Has S e prop j → Comes S (States j) (prove d S hyps j) e
    unfolding prove
    prove_comes zero j e s H h = look_comes j e s H
    prove_comes (suc d) j e s H h =
        or_comes S (States j) (look_up hyps j) _ e (look_comes j e s H)
        (λ e₁ g t. then_comes S (States j) (States j) (chain S (λ q. prove d S hyps q) j) _ e₁ (chain_comes hyps (λ q. prove d S hyps q) (λ q e₂ u K k. prove_comes d q e₂ u K k) j e₁ t (supposed_on e e₁ g hyps H) (has_on S e e₁ g prop j h))
        (λ n e₂ g₂ u T. keep_comes hyps j n e₂ u T))
