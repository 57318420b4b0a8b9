-- The answers of the search's functions, by those of what they call.
use Rattle.std.specs.Prelude.{Some, None, Ok, Err}
use Rattle.std.specs.Prelude.{◌≡◌, refl, List, [], ℕ, suc, ◌+◌, ◌-◌, ◌*◌, ◌≤◌, ◌<◌, length, take}
use Rattle.std.proofs.Common.{sym, ap, subst, ◌∙◌, arith, length-take}
use Rattle.std.proofs.Math.Option.{Option, none, some}
use Rattle.definition.specs.Test.{is, see}
use Rattle.definition.specs.Pack.{prop}
use Rattle.definition.specs.Store.{nothing}
use Rattle.definition.specs.Verdict.{Bound, value_of}
use Rattle.definition.specs.Run.{outcome}
use Rattle.definition.specs.declared.Refusal.{Refusal}
use Rattle.emission.specs.State.{Emitter, Tried, Search}
use Rattle.emission.specs.Render.{proof_text}
use Rattle.emission.specs.Prove.{line_of, keeping, premises, by_rule, chain, prove}
use Rattle.text_write.specs.Written.{ends-whole}
use Rattle.emit_theory.specs.Search.Proving.{Has, Judged, premises_comes, has_on}
use Rattle.emit_maps.specs.Holds.{trailed_new}
use Rattle.emit_state.specs.Places.{maps_of}
use Rattle.emit_state.specs.Holding.{Buffers, lends, World, levels, Holding, Ready, Asked, Comes, Grown, Lined, Wrote, Answers}
use Rattle.emit_state.specs.Frame.{having_work}
use Rattle.emit_state.specs.Onward.{goes_on, ready_on}
use Rattle.emit_state.specs.declared.places.Places.{Places}
use Rattle.emit_state.specs.declared.standing.Standing.{Standing}
use Rattle.emit_state.specs.declared.standing.Proved.{Proved}
use Rattle.emit_state.specs.declared.standing.Proved.TheVariants.{Line, Fails, Refused}
use Rattle.emit_search.specs.Known.{either, Recalls, Remembering, Remembered}
use Rattle.emit_search.specs.Failed.{Failing, Given, deep, tried, Noted}
use Rattle.emit_premises.specs.Premised.{Premised}
use Rattle.emit_search.specs.Trying.{deeper, finishing, AskedByRule, AnswersRule, AskedAll, AnswersAll}
use Rattle.emit_search.specs.Turning.{prove-known, prove_deep, prove-got, prove-lost, prove-refused, prove_barren, failed_barren, rule-got, rule-lost, rule-refused}
use Rattle.emit_search.specs.Asking.{remembering, failing, asked-room}
use Rattle.emit_premises.specs.declared.premises.Premises.TheVariants.{Built, Lacks}

-- what is later than a later one
pub grown_then : (m t : Standing) (o : Proved) → m.store.len ≤ t.store.len → Grown t o → Grown m o
grown_then m t (Line u n) a g = omega arith
grown_then m t (Fails u) a g = omega arith
grown_then m t (Refused x) a g = tt

-- the front of an array, as it is lent
pub front : (n : ℕ) (qs : List ℕ) → take (n - 0) qs ≡ take n qs
front n qs = let z : n - 0 ≡ n = omega arith in ap (λ (k : ℕ). take k qs) z

-- no more of it than that
pub few_front : (n : ℕ) (qs : List ℕ) → length (take (n - 0) qs) ≤ n
few_front n qs = omega (arith, length-take (n - 0) qs)

-- ---- levels
pub deep_enough : (d : ℕ) → d ≤ 4096 → d < levels
deep_enough d h = omega arith

pub deeper_enough : (d : ℕ) → d < levels → d + 1 ≤ levels
deeper_enough d h = omega arith

-- each function of the cycle calls the next one with less
pub less_all : (d t : ℕ) → 4 * (levels - d) + 1 ≡ t → 4 * (levels - d) < t
less_all d t z = omega arith

pub less_rule : (d t : ℕ) → 4 * (levels - d) + 2 ≡ t → 4 * (levels - d) + 1 < t
less_rule d t z = omega arith

pub less_chain : (d t : ℕ) → 4 * (levels - d) + 3 ≡ t → 4 * (levels - d) + 2 < t
less_chain d t z = omega arith

pub less_prove : (d t : ℕ) → d < levels → 4 * (levels - d) ≡ t → 4 * (levels - (d + 1)) + 3 < t
less_prove d t h z = omega arith

-- one level deeper
pub one_deeper : (b : Buffers) (l : Places) (w : World) (depth q : ℕ) (e : Emitter) (o : Proved) → depth < levels → Comes b l w (outcome w.lent (prove (levels - (depth + 1)) w.setting w.hyps q e)) o → Comes b l w (outcome w.lent (deeper w depth q e)) o
one_deeper b l w depth q e o h C = let z : levels - (depth + 1) ≡ 4096 - depth = omega arith in subst (λ (n : ℕ). Comes b l w (outcome w.lent (prove n w.setting w.hyps q e)) o) z C

-- ---- one rule
module _ (pack work work' pattern pattern' : List ℕ) (l : Places) (m : Standing) (j r depth : ℕ) (qs : List ℕ) where
  -- its premises are short of room
  pub rule_short : (proof : List ℕ) (x : Refusal) → Premised pack work work' pattern pattern' qs l m j r (Err x) → AnswersRule (lends pack work pattern proof) (lends pack work' pattern' proof) l m j r (λ w. by_rule w.setting (deeper w depth) j r) (Refused x)
  rule_short proof x F = record { grown = tt; comes = λ w e R h k. rule-refused w.lent w.setting (deeper w depth) j r e x (F.comes proof w e R h k) }

  -- its conclusion does not match, or leaves a variable open
  pub rule_fails : (proof : List ℕ) (t : Standing) → Premised pack work work' pattern pattern' qs l m j r (Ok (Lacks t)) → AnswersRule (lends pack work pattern proof) (lends pack work' pattern' proof) l m j r (λ w. by_rule w.setting (deeper w depth) j r) (Fails t)
  rule_fails proof t F = record { grown = F.grown; comes = λ w e R h k. let C = F.comes proof w e R h k in (C.0, rule-lost w.lent w.setting (deeper w depth) j r e C.0 C.1, C.2) }

  module _ (proof : List ℕ) (t : Standing) (n : ℕ) (F : Premised pack work work' pattern pattern' qs l m j r (Ok (Built t n))) (w : World) (e : Emitter) (R : Ready (lends pack work pattern proof) l m w e) (h : Has w.setting e prop j) (k : r < length w.setting.pack.rules) where
    -- the state behind them
    abbrev pub built-state : Emitter
    built-state = (F.comes proof w e R h k).0

    -- is ready, and they are judgments there
    pub built_on : Ready (lends pack work' pattern' proof) l t w built-state × Has w.setting built-state prop j × Judged w.setting built-state (take n qs)
    built_on =
        let S = w.setting in
        let Q = R.holding.proper in
        let C = F.comes proof w e R h k in
        let T : Tried (List ℕ) = record { result = some (take n qs); state = C.0 } in
        let O = goes_on w.lent S (λ ps e₁. Judged S e₁ ps) (premises S r j) e T (premises_comes S Q.good Q.few r j e k R.sound h) C.1 in
        (ready_on (lends pack work pattern proof) (lends pack work' pattern' proof) l m t w e (λ ps e₁. Judged S e₁ ps) T R O C.2, has_on S e C.0 O.grew prop j h, O.holds (take n qs) refl)

  pub all_asked : (proof : List ℕ) (t : Standing) (n : ℕ) → Premised pack work work' pattern pattern' qs l m j r (Ok (Built t n)) → AskedByRule (lends pack work pattern proof) l m j r → AskedAll (lends pack work' pattern' proof) l t j (take (n - 0) qs)
  all_asked proof t n F A =
      let X = built_on proof t n F A.world A.state A.ready A.has A.rule in
      record {
        few = omega (arith, few_front n qs, F.grown.1);
        world = A.world;
        state = (F.comes proof A.world A.state A.ready A.has A.rule).0;
        ready = X.0;
        has = X.1;
        judged = subst (λ (zs : List ℕ). Judged A.world.setting (F.comes proof A.world A.state A.ready A.has A.rule).0 zs) (sym (front n qs)) X.2;
      }

  -- they are proved in their order
  pub rule_goes_on : (proof : List ℕ) (t : Standing) (n : ℕ) → Premised pack work work' pattern pattern' qs l m j r (Ok (Built t n)) → (b'' : Buffers) (ps : List ℕ) (o : Proved)
      → AnswersAll (lends pack work' pattern' proof) b'' l t j ps (λ w. finishing w.setting (deeper w depth) j r ps []) o → ps ≡ take n qs → AnswersRule (lends pack work pattern proof) b'' l m j r (λ w. by_rule w.setting (deeper w depth) j r) o
  rule_goes_on proof t n F b'' ps o G z = record {
    grown = grown_then m t o F.grown.0 G.grown;
    comes = λ w e R h k.
        let X = built_on proof t n F w e R h k in
        let C = F.comes proof w e R h k in
        let a : outcome w.lent (by_rule w.setting (deeper w depth) j r e) ≡ outcome w.lent (finishing w.setting (deeper w depth) j r ps [] C.0) =
        rule-got w.lent w.setting (deeper w depth) j r e (take n qs) C.0 C.1 ∙ ap (λ (zs : List ℕ). outcome w.lent (finishing w.setting (deeper w depth) j r zs [] C.0)) (sym z) in
        subst (λ x. Comes b'' l w x o) (sym a) (G.comes w C.0 X.0 X.1 (subst (λ (zs : List ℕ). Judged w.setting C.0 zs) (sym z) X.2));
  }

-- ---- a try
-- its line by the two maps
either-line : (hyps : List Bound) (e : Emitter) (j : ℕ) → either (value_of j e.undone.proved) (value_of j hyps) ≡ line_of hyps e j
unfolding either line_of
either-line hyps e j = elim (see (value_of j e.undone.proved)) [
  | is (some n) z ↦ rw (z, either, line_of) refl
  | is none z ↦ rw (z, either, line_of) refl
]

-- no line by either is none by the first
either-none : (a b : Option ℕ) → none ≡ either a b → a ≡ none
unfolding either
either-none (some n) b z = sym z
either-none none b z = refl

module _ (b : Buffers) (l : Places) (m : Standing) (j depth : ℕ) where
  abbrev trying : World → Search ℕ
  trying w = prove (levels - depth) w.setting w.hyps j

  -- there is a line
  pub answers_known : (n : ℕ) → Recalls b.work l j (Some n) → Answers b b l m j trying (Line m n)
  answers_known n K = record {
    grown = omega arith;
    comes = λ w e R h. (e, prove-known w.lent w.setting w.hyps j e (levels - depth) n (K.value _ _ _ _ _ R.holding.maps ∙ either-line w.hyps e j), R.holding);
  }

  module _ (K : Recalls b.work l j None) where
    no_line : (w : World) (e : Emitter) → Holding b l m w e → none ≡ line_of w.hyps e j
    no_line w e H = K.value _ _ _ _ _ H.maps ∙ either-line w.hyps e j

    -- it is given up
    pub answers_given-up : depth ≤ levels → Given b.work l m.failed j depth → Answers b b l m j trying (Fails m)
    answers_given-up d (deep k) = record { grown = omega arith; comes = λ w e R h. (e, prove_deep w.lent w.setting w.hyps j e (levels - depth) (omega arith) (no_line w e R.holding), R.holding) }
    answers_given-up d (tried k z a) = record { grown = omega arith; comes = λ w e R h. (e, prove_barren w.lent w.setting w.hyps j e k (levels - depth) (R.holding.barren j k z) (omega arith), R.holding) }

    module _ (d : depth ≤ 4096) where
      left : levels - depth ≡ suc (4096 - depth)
      left = omega arith

      -- a buffer is short
      pub answers_refused : (b' : Buffers) (x : Refusal) → Answers b b' l m j (λ w. chain w.setting (deeper w depth) j) (Refused x) → Answers b b' l m j trying (Refused x)
      answers_refused b' x F = record { grown = tt; comes = λ w e R h. prove-refused w.lent w.setting w.hyps j e (4096 - depth) (no_line w e R.holding) (levels - depth) left x (F.comes w e R h) }

      -- a rule proves it
      pub answers_proved : (b' : Buffers) (t : Standing) (n : ℕ) → Answers b b' l m j (λ w. chain w.setting (deeper w depth) j) (Line t n) → (work'' : List ℕ) (u : Standing) → Remembered b'.work work'' l t j n u
          → Answers b (having_work work'' b') l m j trying (Line u n)
      answers_proved b' t n F work'' u M = record {
        grown = let s = ap (λ x. x.len) M.store in omega (arith, F.grown);
        comes = λ w e R h.
            let C = F.comes w e R h in
            let H = R.holding in
            let z = trailed_new w.before b.work (maps_of l) w.from m.trail H.since 0 j (omega arith) (asked-room b l m w e R j h) e.undone.proved H.maps.proved (either-none _ _ (K.value _ _ _ _ _ H.maps)) in
            (keeping w.hyps j n C.0, prove-got w.lent w.setting w.hyps j e (4096 - depth) (no_line w e H) (levels - depth) left n C.0 C.1, M.comes b' w C.0 refl z C.2);
      }

      -- none does
      pub answers_failed : (b' : Buffers) (t : Standing) → Answers b b' l m j (λ w. chain w.setting (deeper w depth) j) (Fails t) → (work'' : List ℕ) → Noted b'.work work'' l m.text t j depth → Answers b (having_work work'' b') l m j trying (Fails t)
      answers_failed b' t F work'' N = record {
        grown = F.grown;
        comes = λ w e R h.
            let C = F.comes w e R h in
            let H = R.holding in
            let S = w.setting in
            let o = prove-lost w.lent S w.hyps j e (4096 - depth) (no_line w e H) (levels - depth) left C.0 C.1 in
            let first = ends-whole b.proof m.text (proof_text S.pack S.name e.undone.lines) (omega (arith, H.text_few)) H.written H.ends in
            let last = ends-whole b'.proof t.text (proof_text S.pack S.name C.0.undone.lines) (omega (arith, C.2.text_few)) C.2.written C.2.ends in
            (C.0, o, N.comes b' w C.0 refl (λ q. failed_barren w.lent S w.hyps j e H.proper.good H.proper.few R.sound R.supposed h (levels - depth) depth (omega arith) C.0 o (omega (arith, first.0, last.0, q))) C.2);
      }

-- what was written has a line that a map can keep
pub wrote_lined : (o : Proved) → Wrote o → Lined o
wrote_lined (Line t n) h = h
wrote_lined (Fails t) h = tt
wrote_lined (Refused x) h = tt

-- ---- what the leaves behind a chained judgment ask
module _ (b b' : Buffers) (l : Places) (m : Standing) (j : ℕ) (run : World → Search ℕ) (A : Asked b l m j) where
  pub remember_asked : (t : Standing) (n : ℕ) → Answers b b' l m j run (Line t n) → n < nothing → Remembering b'.work l t × (j < l.room) × (n < nothing)
  remember_asked t n F small =
      let C = F.comes A.world A.state A.ready A.has in
      (remembering b' l t A.world C.0 C.2, asked-room b l m A.world A.state A.ready j A.has, small)

  pub note-asked : (t : Standing) → Answers b b' l m j run (Fails t) → Failing b'.work l t.failed j
  note-asked t F =
      let C = F.comes A.world A.state A.ready A.has in
      failing b' l t A.world C.0 C.2 j (asked-room b l m A.world A.state A.ready j A.has)
