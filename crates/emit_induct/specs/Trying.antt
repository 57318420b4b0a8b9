-- One candidate for an output: its judgment, then an attempt at a proof.
use Rattle.std.specs.Prelude.{Ok, Err}
use Rattle.std.specs.Prelude.{◌≡◌, refl, List, ◌∷◌, ℕ}
use Rattle.std.proofs.Common.{sym, subst, ◌∙◌}
use Rattle.std.proofs.Math.Path.{ap}
use Rattle.std.proofs.Math.Option.{Option, none, some}
use Rattle.definition.specs.Pack.{Node, symbol_of}
use Rattle.definition.specs.Frame.{Read, fine, refuse}
use Rattle.definition.specs.Answer.{Lent}
use Rattle.definition.specs.Run.{outcome}
use Rattle.definition.specs.declared.Refusal.{Refusal}
use Rattle.emission.specs.State.{Emitter, Tried, Search, attempt, interned}
use Rattle.emission.specs.Induct.{prove_cut}
use Rattle.emit_theory.specs.Patterns.{Of}
use Rattle.emit_theory.specs.Outcomes.{on_from, ran-attempt}
use Rattle.emit_theory.specs.Sound.{Grew, grew_then}
use Rattle.emit_theory.specs.Search.Proving.{Has, States}
use Rattle.emit_theory.specs.Search.Cases.{application_comes}
use Rattle.emit_theory.specs.Search.Inducting.{prove-cut_comes}
use Rattle.emit_state.specs.Holding.{Buffers, lends, World, Holding, Ready, Comes, got, lost}
use Rattle.emit_state.specs.Turns.{then_got, then_refused}
use Rattle.emit_state.specs.Onward.{goes_on, ready_on}
use Rattle.emit_state.specs.declared.places.Places.{Places}
use Rattle.emit_state.specs.declared.standing.Standing.{Standing}
use Rattle.emit_state.specs.declared.standing.Proved.{Proved}
use Rattle.emit_state.specs.declared.standing.Proved.TheVariants.{Line, Fails, Refused}
use Rattle.emit_case.specs.Asked.{AskedFor, AnswersFor}
use Rattle.emit_case.specs.Interning.{Interns}
use Rattle.emit_case.specs.Putting.{grown_then}
use Rattle.emit_case.specs.Casing.{over, key-node}
use Rattle.emit_induct.specs.Cases.{Plain}
use Rattle.emit_induct.specs.Candidates.{arguments_in, filling, Fitting, try_run, TryTo, TryAnswers}
use Rattle.emit_case.specs.declared.goal.Inducting.{Inducting}
use Rattle.emit_induct.specs.declared.candidates.Output.{Output}

-- ---- an attempt
module _ {A : Type 0} (l : Lent) (m : Search A) (e : Emitter) where
  -- what was read of it
  abbrev whichever : Read (Tried A) → Read (Tried (Option A))
  whichever o = on_from o (λ (t : Tried A). fine (record { result = some t.result; state = t.state }))

  -- a result is one
  attempt-got : (a : A) (e' : Emitter) → outcome l (m e) ≡ got a e' → outcome l (attempt m e) ≡ got (some a) e'
  unfolding on_from
  attempt-got a e' h = ran-attempt l m e ∙ ap (λ (o : Read (Tried A)). whichever o) h

  -- none is a result too
  attempt-lost : (e' : Emitter) → outcome l (m e) ≡ lost e' → outcome l (attempt m e) ≡ got none e'
  unfolding on_from
  attempt-lost e' h = ran-attempt l m e ∙ ap (λ (o : Read (Tried A)). whichever o) h

  -- a short buffer ends it
  attempt-refused : (x : Refusal) → outcome l (m e) ≡ refuse x → outcome l (attempt m e) ≡ refuse x
  unfolding on_from
  attempt-refused x h = ran-attempt l m e ∙ ap (λ (o : Read (Tried A)). whichever o) h

-- ---- a candidate
-- what is proved of it
abbrev pub inducting : Output → ℕ → Inducting
inducting x j = record { eigen = x.eigen; sort = x.sort; judgment = j }

module _ (pack work words proof work' words' : List ℕ) (l : Places) (m : Standing) (x : Output) (args : List ℕ) (c : ℕ) (zs : List ℕ) (z : zs ≡ x.predicate ∷ filling args c) where
  -- the buffers ahead of it
  abbrev ahead : Buffers
  ahead = lends pack work words proof

  -- the buffers behind its judgment
  abbrev between : Buffers
  between = lends pack work' words' proof

  -- its judgment
  abbrev judged : Node
  judged = over x.predicate (filling args c)

  -- the run of all
  abbrev trying : World → Search (Option ℕ)
  trying w = try_run w.setting x.predicate (arguments_in args) c

  -- there is no room for its judgment
  pub try_short : (r : Refusal) → Interns work work' words words' l m zs (Err r) → TryAnswers ahead between l m x args c (Refused r)
  unfolding try_run
  try_short r I = record {
    grown = tt;
    comes = λ w e R F. then_refused w.lent (interned judged) _ e r (ap (λ (n : Node). outcome w.lent (interned n e)) (sym (key-node x.predicate (filling args c) zs z)) ∙ I.comes pack proof w e R);
  }

  module _ (t : Standing) (j : ℕ) (I : Interns work work' words words' l m zs (Ok (t, j))) where
    -- the state with its judgment
    record Judged (w : World) (e : Emitter) : Type 0 where
      state : Emitter
      is_so : outcome w.lent (interned judged e) ≡ got j state
      ready : Ready between l t w state
      grew : Grew e state
      plain : Plain (inducting x j) w state

    -- there is one
    is_judged : (w : World) (e : Emitter) → Ready ahead l m w e → Fitting x args c w e → Judged w e
    is_judged w e R F =
        let S = w.setting in
        let P = R.holding.proper in
        let D = F.opened in
        let output = (symbol_of S.pack x.predicate).output in
        let C = I.comes pack proof w e R in
        let e₂ = C.0 in
        let q : outcome w.lent (interned judged e) ≡ got j e₂ = ap (λ (n : Node). outcome w.lent (interned n e)) (sym (key-node x.predicate (filling args c) zs z)) ∙ C.1 in
        let T : Tried ℕ = record { result = some j; state = e₂ } in
        let Q : ℕ → Emitter → Type 0 = λ p e₁. (e₁.undone ≡ e.undone) × Of S.pack S.eigen e.undone.names e₁.kept.store output p in
        let O = goes_on w.lent S Q (interned judged) e T (application_comes S P.few e.undone.names x.predicate (filling args c) e R.sound D.symbol F.fits) q in
        let N = O.holds j refl in
        let Y : Has S e₂ output j = subst (λ u. Of S.pack S.eigen u.names e₂.kept.store output j) (sym N.0) N.1 in
        record {
          state = e₂;
          is_so = q;
          ready = ready_on ahead between l m t w e Q T R O C.2;
          grew = O.grew;
          plain = record { none = D.none; given = record { eigen = D.eigen; sort = D.sort; has = subst (λ (so : ℕ). Has S e₂ so j) D.output Y } };
        }

    -- its proof is asked for
    pub try_asked : AskedFor ahead l m (Fitting x args c) → AskedFor between l t (Plain (inducting x j))
    try_asked A = let N = is_judged A.world A.state A.ready A.holds in record { world = A.world; state = N.state; ready = N.ready; holds = N.plain }

    module _ (b' : Buffers) (w : World) (e : Emitter) (N : Judged w e) where
      -- the state behind the proof, sound as it was
      behind : (u : Standing) (o : Option ℕ) (e' : Emitter) → outcome w.lent (prove_cut w.setting j N.state) ≡ fine (record { result = o; state = e' }) → Holding b' l u w e' → Ready b' l u w e' × Grew e e'
      behind u o e' h H =
          let S = w.setting in
          let P = N.ready.holding.proper in
          let T : Tried ℕ = record { result = o; state = e' } in
          let O = goes_on w.lent S (States j) (prove_cut S j) N.state T (prove-cut_comes S P.good P.few j N.state N.ready.sound N.plain.given.has) h in
          (ready_on between b' l t u w N.state (States j) T N.ready O H, grew_then e N.state e' N.grew O.grew)

      -- what was tried is the attempt behind the judgment
      on_judged : outcome w.lent (trying w e) ≡ outcome w.lent (attempt (prove_cut w.setting j) N.state)
      unfolding try_run
      on_judged = then_got w.lent (interned judged) (λ p. attempt (prove_cut w.setting p)) e j N.state N.is_so

      -- by what the proof came to
      tried-to : (r : Proved) → Comes b' l w (outcome w.lent (prove_cut w.setting j N.state)) r → TryTo b' l w e (outcome w.lent (trying w e)) r
      tried-to (Line u n) C = let B = behind u (some n) C.0 C.1 C.2 in (C.0, on_judged ∙ attempt-got w.lent (prove_cut w.setting j) N.state n C.0 C.1, B.0, B.1)
      tried-to (Fails u) C = let B = behind u none C.0 C.1 C.2 in (C.0, on_judged ∙ attempt-lost w.lent (prove_cut w.setting j) N.state C.0 C.1, B.0, B.1)
      tried-to (Refused y) C = on_judged ∙ attempt-refused w.lent (prove_cut w.setting j) N.state y C

    -- and is the answer
    pub try_on : (b' : Buffers) (r : Proved) → AnswersFor between b' l t (Plain (inducting x j)) (λ w. prove_cut w.setting j) r → TryAnswers ahead b' l m x args c r
    try_on b' r E = record {
      grown = grown_then m t r I.grown E.grown;
      comes = λ w e R F. let N = is_judged w e R F in tried-to b' w e N r (E.comes w N.state N.ready N.plain);
    }
