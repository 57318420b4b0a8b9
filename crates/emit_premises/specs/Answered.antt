-- A rule matched, then its premises built: that answers what was asked.
use Rattle.std.specs.Prelude.{Option as Optional, Some, None, Ok, Err}
use Rattle.std.specs.Prelude.{◌≡◌, refl, List, [], Bool, true, false, ℕ, ◌≤◌, ◌<◌, length, get_or, take}
use Rattle.std.proofs.Common.{sym, ap, subst, ◌∙◌, arith, get_or-take, length-take-le}
use Rattle.std.proofs.Math.Option.{Option, none, some}
use Rattle.definition.specs.Pack.{prop, most_premises, Node, Pack, rule_of}
use Rattle.definition.specs.Certificate.{count}
use Rattle.definition.specs.Good.{Below}
use Rattle.definition.proofs.Laws.Grow.{below_at}
use Rattle.definition.specs.Verdict.{matches}
use Rattle.definition.specs.Store.{pattern_words}
use Rattle.definition.specs.Frame.{Read, fine, refuse}
use Rattle.definition.specs.Run.{outcome}
use Rattle.definition.specs.declared.Refusal.TheVariants.{Short as TooShort}
use Rattle.emission.specs.State.{Emitter, Tried, having_store}
use Rattle.emission.specs.Patterns.{over, BuiltAll, build_all}
use Rattle.emission.specs.Prove.{premises}
use Rattle.theory.specs.Patterns.Interned.{Grows, grows_long}
use Rattle.pack_read.specs.Says.{OfPack}
use Rattle.pack_read.specs.Held.{OfHeld}
use Rattle.store.specs.Words.{begins_long}
use Rattle.store.specs.Stored.{nodes}
use Rattle.store.specs.declared.nodes.Store.{Store}
use Rattle.emit_theory.specs.Stores.{SortedStore}
use Rattle.emit_theory.specs.Again.IfSome.{IfSome}
use Rattle.emit_theory.specs.Again.Building.{builds_all}
use Rattle.emit_theory.specs.Again.Premises.{matched}
use Rattle.emit_theory.specs.Search.Proving.{Has}
use Rattle.emit_match.specs.Places.{Stays}
use Rattle.emit_match.specs.Begins.{Answers}
use Rattle.emit_match.specs.declared.places.Matching.{Matching}
use Rattle.emit_state.specs.Places.{matching_of}
use Rattle.emit_state.specs.Holding.{lends, World, Holding, Ready}
use Rattle.emit_state.specs.Grown.{having_patterns, holding_patterns}
use Rattle.emit_state.specs.declared.places.Places.{Places}
use Rattle.emit_state.specs.declared.standing.Standing.{Standing}
use Rattle.emit_premises.specs.Open.{built_all, all_grows}
use Rattle.emit_premises.specs.Ended.{BuildAsked, BuiltTo, Finishes, Rests}
use Rattle.emit_premises.specs.Outcome.{premises-lost, premises_fine, premises_short}
use Rattle.emit_premises.specs.Premised.{PremisesAsked, Premised}
use Rattle.emit_premises.specs.Readied.{ready_sorted, ready_matched, ready_site}
use Rattle.emit_premises.specs.declared.build.Built.{Built as Outcome}
use Rattle.emit_premises.specs.declared.build.Built.TheVariants.{All, Lacks as Misses}
use Rattle.emit_premises.specs.declared.premises.Premises.TheVariants.{Built, Lacks}

module _ (pack work words : List ℕ) (l : Places) (m : Standing) (j r : ℕ) (A : PremisesAsked pack work words l m j r) (work₁ : List ℕ) (Y : Stays (matching_of l m.store) work work₁) where
  -- what matching there answered
  abbrev MatchedAt : Matching → Bool → Type 0
  MatchedAt at b = OfHeld pack work at.catalog (λ P. SortedStore P (nodes words at.store) → Answers P (nodes words at.store) at r j work₁ b)

  -- where the state has its words
  abbrev pub MatchedTo : Bool → Type 0
  MatchedTo b = MatchedAt (matching_of l m.store) b

  -- code says so of the place that it made, and of its own answer
  pub matched_to : (at : Matching) → at ≡ matching_of l m.store → (b b' : Bool) → b ≡ b' → MatchedAt at b → MatchedTo b'
  matched_to at q b b' f M = subst (λ (x : Bool). MatchedTo x) f (subst (λ (x : Matching). MatchedAt x b) q M)

  -- the conclusion does not match
  pub answered-none : MatchedTo false → (qs : List ℕ) → Premised pack work work₁ words words qs l m j r (Ok (Lacks m))
  answered-none M qs = record {
    grown = omega arith;
    below = tt;
    comes = λ proof w e R h k.
        let P = w.setting.pack in
        let H = R.holding in
        let z = M P H.reads H.proper (ready_sorted pack work words proof l m w e R) in (
          e,
          premises-lost w.setting r j e w.lent (ap (λ (s : List Node). matches (over P s) (rule_of P r).conclusion j []) (sym H.nodes_are) ∙ z),
          ready_matched pack work words proof l m w e R work₁ Y,
        );
  }

  module _ (M : MatchedTo true) (n : ℕ) (N : OfPack pack work₁ l.hand.catalog (λ P. count (rule_of P r).premises) n) where
    -- the premises can be built
    pub answered-asked : BuildAsked pack work₁ words (matching_of l m.store) r n
    answered-asked =
        let w = A.world in
        let H = A.ready.holding in
        let S = ready_site pack work words A.proof l m w A.state A.ready work₁ Y in
        let a = M w.setting.pack H.reads H.proper (ready_sorted pack work words A.proof l m w A.state A.ready) in
        record { site = S; rule = A.rule; many = N w.setting.pack S.held.reads; values = a.0; mapped = a.2 }

    -- there are few of them
    pub answered_few : n ≤ most_premises
    answered_few =
        let H = ready_matched pack work words A.proof l m A.world A.state A.ready work₁ Y in
        omega (arith, N A.world.setting.pack H.reads, (H.proper.good.rules r A.rule).arity)

    module _ (work₂ words₂ qs : List ℕ) (same : length words₂ ≡ length words) where
      -- what building there answered
      abbrev BuiltAt : Matching → Optional Outcome → Type 0
      BuiltAt at x = BuiltTo pack work₁ words words₂ qs at r n x × Rests work₁ work₂ words₂ at x

      -- where the state has its words
      abbrev pub BuiltBy : Optional Outcome → Type 0
      BuiltBy x = BuiltAt (matching_of l m.store) x

      -- code says so of the place that it made, and of its own answer
      pub built_by : (at : Matching) → at ≡ matching_of l m.store → (x x' : Optional Outcome) → x ≡ x' → BuiltAt at x → BuiltBy x'
      built_by at q x x' f K = subst (λ (y : Optional Outcome). BuiltBy y) f (subst (λ (y : Matching). BuiltAt y x) q K)

      -- in a state that the buffers held
      module _ (proof : List ℕ) (w : World) (e : Emitter) (R : Ready (lends pack work words proof) l m w e) (h : Has w.setting e prop j) (k : r < length w.setting.pack.rules) where
        -- the pack, and the patterns
        abbrev P : Pack
        P = w.setting.pack

        abbrev s : List Node
        s = nodes words m.store

        -- the values that matching found
        found : Answers P s (matching_of l m.store) r j work₁ true
        found = M P R.holding.reads R.holding.proper (ready_sorted pack work words proof l m w e R)

        -- the definition's matching found the same
        fits : matched w.setting r j e ≡ some found.0
        fits = ap (λ (s : List Node). matches (over P s) (rule_of P r).conclusion j []) (sym R.holding.nodes_are) ∙ found.1

        -- the same from the state's own store
        built-from : (o : Option (List ℕ)) (st : Store) → build_all (rule_of P r).premises found.0 s ≡ built_all o (nodes words₂ st) → build_all (rule_of P r).premises found.0 e.kept.store ≡ built_all o (nodes words₂ st)
        built-from o st q = ap (build_all (rule_of P r).premises found.0) (sym R.holding.nodes_are) ∙ q

        -- patterns were only added
        more : (o : Option (List ℕ)) (st : Store) → build_all (rule_of P r).premises found.0 s ≡ built_all o (nodes words₂ st) → Grows e.kept.store (nodes words₂ st)
        more o st q = subst (λ (t : List Node). Grows e.kept.store t) (ap (λ (b : BuiltAll). b.store) (built-from o st q)) (all_grows (rule_of P r).premises found.0 e.kept.store)

        -- with room for the patterns
        came_fine : (o : Option (List ℕ)) (st : Store) → build_all (rule_of P r).premises found.0 s ≡ built_all o (nodes words₂ st) → Rests work₁ work₂ words₂ (matching_of l m.store) (Some (All st))
            → (e' : Emitter) × (◌≡◌ {A = Read (Tried (List ℕ))} (outcome w.lent (premises w.setting r j e)) (fine (record { result = o; state = e' }))) × Holding (lends pack work₂ words₂ proof) l (having_patterns st m) w e'
        came_fine o st q T =
            let H = ready_matched pack work words proof l m w e R work₁ Y in (
              having_store (nodes words₂ st) e,
              premises_fine w.setting r j e w.lent found.0 fits o (nodes words₂ st) (built-from o st q) (more o st q) (omega (arith, begins_long (nodes words₂ st) words₂ T.1.placed.begins, same, H.pattern_lent)),
              holding_patterns (lends pack work₁ words proof) l m w e H work₂ words₂ st T.0 same T.1 (more o st q),
            )

        -- without
        came_short : length words < length (pattern_words (build_all (rule_of P r).premises found.0 s).store) → outcome w.lent (premises w.setting r j e) ≡ refuse (TooShort 2)
        came_short q =
            let H = R.holding in
            let b = build_all (rule_of P r).premises found.0 e.kept.store in
            let c = ap (λ (t : List Node). length (pattern_words (build_all (rule_of P r).premises found.0 t).store)) H.nodes_are in
            premises_short w.setting r j e w.lent found.0 fits b.numbers b.store refl (all_grows (rule_of P r).premises found.0 e.kept.store) (omega (arith, q, c, H.pattern_lent))
            (omega (arith, begins_long s words H.stored.placed.begins, ap (λ (t : List Node). length (pattern_words t)) H.nodes_are, H.pattern_lent))

        -- no fewer patterns
        no_fewer : (o : Option (List ℕ)) (st : Store) → build_all (rule_of P r).premises found.0 s ≡ built_all o (nodes words₂ st) → Rests work₁ work₂ words₂ (matching_of l m.store) (Some (All st)) → m.store.len ≤ st.len
        no_fewer o st q T =
            let H = R.holding in
            omega (arith, grows_long e.kept.store (nodes words₂ st) (more o st q), ap length H.nodes_are, H.stored.placed.len, T.1.placed.len)

        -- the premises are patterns
        inside : (st : Store) → build_all (rule_of P r).premises found.0 s ≡ built_all (some (take n qs)) (nodes words₂ st) → Rests work₁ work₂ words₂ (matching_of l m.store) (Some (All st)) → n ≤ length qs → (i : ℕ) → i < n → get_or qs i 0 < st.len
        inside st q T few i c =
            let B = (builds_all (rule_of P r).premises found.0 s found.3).inside in
            let D : Below (length (nodes words₂ st)) (take n qs) = subst (λ (b : BuiltAll). IfSome (λ ps. Below (length b.store) ps) b.numbers) q B in
            omega (arith, below_at (length (nodes words₂ st)) (take n qs) i D (omega (arith, length-take-le n qs few)), get_or-take n qs i 0 c, T.1.placed.len)

        -- what building answered
        made : (x : Optional Outcome) → BuiltTo pack work₁ words words₂ qs (matching_of l m.store) r n x → Finishes (build_all (rule_of P r).premises found.0 s) words words₂ qs n x
        made x K = let H = ready_matched pack work words proof l m w e R work₁ Y in K P H.reads H.proper k (N P H.reads) found.0 found.2

      -- ---- the three answers
      pub answered-all : (st : Store) → BuiltBy (Some (All st)) → n ≤ length qs
          → Premised pack work work₂ words words₂ qs l m j r (Ok (Built (having_patterns st m) n))
      answered-all st K few =
          let q = made A.proof A.world A.state A.ready A.has A.rule (Some (All st)) K.0 in
          record {
            grown = (no_fewer A.proof A.world A.state A.ready A.has A.rule (some (take n qs)) st q K.1, answered_few);
            below = inside A.proof A.world A.state A.ready A.has A.rule st q K.1 few;
            comes = λ proof w e R h k. came_fine proof w e R h k (some (take n qs)) st (made proof w e R h k (Some (All st)) K.0) K.1;
          }

      -- a variable has no value
      pub answered_lacks : (st : Store) → BuiltBy (Some (Misses st))
          → Premised pack work work₂ words words₂ qs l m j r (Ok (Lacks (having_patterns st m)))
      answered_lacks st K =
          let q = made A.proof A.world A.state A.ready A.has A.rule (Some (Misses st)) K.0 in
          record {
            grown = no_fewer A.proof A.world A.state A.ready A.has A.rule none st q K.1;
            below = tt;
            comes = λ proof w e R h k. came_fine proof w e R h k none st (made proof w e R h k (Some (Misses st)) K.0) K.1;
          }

      -- the patterns have no room
      pub answered_short : BuiltBy None → Premised pack work work₂ words words₂ qs l m j r (Err (TooShort 2))
      answered_short K = record { grown = tt; below = tt; comes = λ proof w e R h k. came_short proof w e R h k (made proof w e R h k None K.0) }
