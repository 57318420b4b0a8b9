-- A rule's premises for a judgment repeat themselves: they write no line, and the nodes that they make are made once.
use Rattle.std.specs.Prelude.{◌≡◌, true, false, ℕ, ◌<◌, eqb, length}
use Rattle.std.proofs.Math.Path.{refl, ap}
use Rattle.std.proofs.Common.{◌∙◌, arith, eqb-true, eq-eqb, length-append}
use mathlib.Core.List.{List, [], ◌∷◌, ◌++◌, append-nil}
use Rattle.std.proofs.Math.Option.{Option, none, some}
use Rattle.definition.specs.Test.{is, see}
use Rattle.definition.specs.Pack.{prop, Node, rule_of}
use Rattle.definition.specs.Good.{Below, Good, Few}
use Rattle.definition.specs.Verdict.{Bound, matches}
use Rattle.definition.specs.Store.{pattern_words}
use Rattle.definition.specs.Run.{Note, behind, ◌>>=◌ as ◌>>=r◌}
use Rattle.emission.specs.State.{Emitter, Setting, ◌>>=◌, from, now, grown_to, having_store}
use Rattle.emission.specs.Patterns.{over, BuiltAll, build_all}
use Rattle.emission.specs.Prove.{premises}
use Rattle.theory.specs.Patterns.Interned.{Grows, with}
use Rattle.emit_theory.specs.Came.{came, from-came, then_some, then_none}
use Rattle.emit_theory.specs.Again.Later.{Later, later_then, Fit}
use Rattle.emit_theory.specs.Again.Outcome.{due-nothing, Again, quiet_again}
use Rattle.emit_theory.specs.Again.Matching.{within_none, match_grown, match_within}
use Rattle.emit_theory.specs.Again.Building.{builds_all}

-- ---- a store that is grown to
-- a list that has grown and is as long is the same
pub same_length : {A : Type 0} (xs ys : List A) → Grows xs ys → length ys ≡ length xs → ys ≡ xs
same_length xs ys (with [] q) l = q ∙ append-nil xs
same_length xs ys (with (x ∷ more) q) l = let a = length-append xs (x ∷ more) in let b = ap length q in absurd (omega arith)

-- to grow to one's own store is to do nothing
pub grown_itself : (e : Emitter) → grown_to e.kept.store e ≡ came [] (some tt) e
unfolding grown_to
grown_itself e = rw (eq-eqb (length e.kept.store) (length e.kept.store) refl, grown_to)

-- a store that has grown is grown to
grown-to : (e : Emitter) (s : List Node) → Grows e.kept.store s → (ns : List Note) × (grown_to s e ≡ came ns (some tt) (having_store s e))
unfolding grown_to ◌>>=r◌ behind
grown-to e s g = elim (see (eqb (length s) (length e.kept.store))) [
  | is true t ↦
      let same = same_length e.kept.store s g (eqb-true (length s) (length e.kept.store) t) in
      ([], rw same (grown_itself e))
  | is false t ↦ (record { buffer = 2; fill = length (pattern_words s) } ∷ [], rw (t, grown_to))
]

-- ---- a rule's premises
module _ (S : Setting) (r j : ℕ) where
  abbrev pub matched : Emitter → Option (List Bound)
  matched e = matches (over S.pack e.kept.store) (rule_of S.pack r).conclusion j []

  -- a rule that does not match has none
  pub premises-none : (e : Emitter) → matched e ≡ none → premises S r j e ≡ came [] none e
  unfolding premises
  premises-none e h = then_some now _ e e [] e [] none e refl (then_none (from (matched e)) _ e e [] (from-came (matched e) e ∙ ap (λ o. came [] o e) h))

  -- one that does has those that are built
  pub premises_some : (e e₁ : Emitter) (env : List Bound) (b : BuiltAll) (ns : List Note) → matched e ≡ some env → build_all (rule_of S.pack r).premises env e.kept.store ≡ b
      → grown_to b.store e ≡ came ns (some tt) e₁ → premises S r j e ≡ came (ns ++ []) b.numbers e₁
  unfolding premises
  premises_some e e₁ env b ns h k g =
      then_some now _ e e [] e (ns ++ []) b.numbers e₁ refl
      (then_some (from (matched e)) _ e e [] env (ns ++ []) b.numbers e₁ (from-came (matched e) e ∙ ap (λ o. came [] o e) h)
      (ap (λ (c : BuiltAll). (grown_to c.store >>= λ _. from c.numbers) e) k ∙ then_some (grown_to b.store) _ e e₁ ns tt [] b.numbers e₁ g (from-came b.numbers e₁)))

module _ (S : Setting) (G : Good S.pack) (W : Few S.pack) (r : ℕ) (given : r < length S.pack.rules) (j : ℕ) (e : Emitter) (fit : Fit e.kept.store j) where
  -- a rule matches as before in a later state
  matched-later : (e' : Emitter) → Later e e' → matched S r j e' ≡ matched S r j e
  matched-later e' l =
      let rule = rule_of S.pack r in
      match_grown S.pack W rule.vars e.kept.store fit.0 e'.kept.store l.grows rule.conclusion prop (G.rules r given).conclusion j [] fit.1

  -- where it matches: its premises are built once
  by_match : (env : List Bound) → matched S r j e ≡ some env → Again S 0 (λ qs s. Below (length s) qs) (premises S r j) (premises S r j) e
  by_match env h =
      let rule = rule_of S.pack r in
      let s = e.kept.store in
      let w = match_within S.pack W rule.vars s fit.0 rule.conclusion prop (G.rules r given).conclusion j [] env fit.1 (within_none (length s)) h in
      let b = build_all rule.premises env s in
      let B = builds_all rule.premises env s w in
      let e₁ = having_store b.store e in
      let g = grown-to e b.store B.further.grows in
      let z = due-nothing b.numbers in
      record {
        result = b.numbers;
        state = e₁;
        outcome = record {
          notes = g.0 ++ [];
          is_so = premises_some S r j e e₁ env b g.0 h refl g.1;
          longer = omega arith;
          further = B.further;
          holds = B.inside;
          still = λ q. refl;
          again = λ q e' l.
              let later = later_then e e₁ e' (record { proved = refl; grows = B.further.grows }) l in
              let same : BuiltAll = record { numbers = b.numbers; store = e'.kept.store } in
              premises_some S r j e' e' env same [] (matched-later e' later ∙ h) (B.again e'.kept.store l.grows) (grown_itself e');
        };
      }

  -- premises for a judgment that stands in the store
  pub premises_again : Again S 0 (λ qs s. Below (length s) qs) (premises S r j) (premises S r j) e
  premises_again = elim (see (matched S r j e)) [
    | is none h ↦ quiet_again S none refl tt (premises-none S r j e h) (λ e' l. premises-none S r j e' (matched-later e' l ∙ h))
    | is (some env) h ↦ by_match env h
  ]
