-- A pattern put for L: the state behind it, in which the judgment made is one; and a case's goal.
use Rattle.std.specs.Prelude.{Ok, Err}
use Rattle.std.specs.Prelude.{◌≡◌, refl, List, ℕ, ◌≤◌, length}
use Rattle.std.proofs.Common.{sym, ap, arith}
use Rattle.std.proofs.Math.Path.{subst}
use Rattle.std.proofs.Math.Option.{some}
use Rattle.definition.specs.Pack.{prop}
use Rattle.definition.specs.Run.{outcome}
use Rattle.definition.specs.declared.Refusal.{Refusal}
use Rattle.emission.specs.State.{Emitter, Tried}
use Rattle.emission.specs.Prove.{chain}
use Rattle.emission.specs.Induct.{put_for_l}
use Rattle.emit_theory.specs.Sound.{Grew}
use Rattle.emit_theory.specs.Search.Proving.{Has}
use Rattle.emit_theory.specs.Search.Inducting.{put_for_L_comes}
use Rattle.emit_state.specs.Holding.{Buffers, lends, World, Holding, Ready, Asked, Comes, Grown, Answers, got}
use Rattle.emit_state.specs.Turns.{then_got, then_refused}
use Rattle.emit_state.specs.Onward.{goes_on, ready_on}
use Rattle.emit_state.specs.declared.places.Places.{Places}
use Rattle.emit_state.specs.declared.standing.Standing.{Standing}
use Rattle.emit_state.specs.declared.standing.Proved.{Proved}
use Rattle.emit_state.specs.declared.standing.Proved.TheVariants.{Line, Fails, Refused}
use Rattle.emit_case.specs.Leaves.{PutsFor}
use Rattle.emit_replace.specs.Answers.{Replaceable}
use Rattle.emit_search.specs.Trying.{deeper}
use Rattle.emit_case.specs.Asked.{AskedFor, AnswersFor, Termed}
use Rattle.emit_case.specs.Runs.{goal_with, goal_run}
use Rattle.emit_case.specs.declared.goal.Inducting.{Inducting}

-- what is later than a later one
pub grown_then : (m t : Standing) (o : Proved) → m.store.len ≤ t.store.len → Grown t o → Grown m o
grown_then m t (Line u n) a g = omega arith
grown_then m t (Fails u) a g = omega arith
grown_then m t (Refused x) a g = tt

module _ (b : Buffers) (l : Places) (m : Standing) (w : World) (e : Emitter) (H : Holding b l m w e) where
  -- as many patterns as there are nodes
  pub len_is : m.store.len ≡ length e.kept.store
  len_is = omega (arith, H.stored.placed.len, ap length H.nodes_are)

  -- each has a word in a map
  pub len_room : m.store.len ≤ l.room
  len_room = omega (arith, H.stored.placed.len, H.stored.ranged.half, H.stored.ranged.most, H.room_is)

-- the judgment made, in the state behind it
pub record Put (b : Buffers) (l : Places) (t : Standing) (w : World) (e : Emitter) (y j q : ℕ) : Type 0 where
  pub state : Emitter
  pub is_so : outcome w.lent (put_for_l w.setting y j e) ≡ got q state
  pub grew : Grew e state
  pub ready : Ready b l t w state
  pub has : Has w.setting state prop q

module _ (pack work words proof : List ℕ) (l : Places) (m : Standing) (g : Inducting) (y : ℕ) where
  -- what is asked of the buffers
  pub put-asked : AskedFor (lends pack work words proof) l m (Termed g y) → Replaceable work words l m g.eigen y g.judgment
  put-asked A = record {
    pack = pack;
    proof = proof;
    world = A.world;
    state = A.state;
    ready = A.ready;
    x_stored = omega (arith, A.holds.given.eigen, A.ready.sound.L_stored);
    y_stored = A.holds.of_sort.stored;
    j_stored = A.holds.given.has.stored;
  }

  module _ (work' words' : List ℕ) where
    -- the state behind it
    pub put_on : (t : Standing) (q : ℕ) → PutsFor work work' words words' l m g.eigen y g.judgment (Ok (t, q)) → (w : World) (e : Emitter) → Ready (lends pack work words proof) l m w e → Termed g y w e
        → Put (lends pack work' words' proof) l t w e y g.judgment q
    put_on t q F w e R T =
        let S = w.setting in
        let P = R.holding.proper in
        let C = F.comes pack proof w e R T.given.eigen T.of_sort.stored T.given.has.stored in
        let D : Tried ℕ = record { result = some q; state = C.0 } in
        let O = goes_on w.lent S (λ p e₁. Has S e₁ prop p) (put_for_l S y g.judgment) e D (put_for_L_comes S P.good P.few prop y g.judgment e R.sound T.of_sort T.given.has) C.1 in
        record { state = C.0; is_so = C.1; grew = O.grew; ready = ready_on (lends pack work words proof) (lends pack work' words' proof) l m t w e (λ p e₁. Has S e₁ prop p) D R O C.2; has = O.holds q refl }

    -- it is asked for
    pub made-asked : (t : Standing) (q : ℕ) → PutsFor work work' words words' l m g.eigen y g.judgment (Ok (t, q)) → AskedFor (lends pack work words proof) l m (Termed g y) → Asked (lends pack work' words' proof) l t q
    made-asked t q F A =
        let P = put_on t q F A.world A.state A.ready A.holds in
        record { world = A.world; state = P.state; ready = P.ready; has = P.has }

    -- ---- a case's goal
    -- the judgment made is chained
    pub goal_on : (t : Standing) (q : ℕ) → PutsFor work work' words words' l m g.eigen y g.judgment (Ok (t, q)) → (b' : Buffers) (o : Proved)
        → Answers (lends pack work' words' proof) b' l t q (λ w. chain w.setting (deeper w 1) q) o → AnswersFor (lends pack work words proof) b' l m (Termed g y) (λ w. goal_run w y g.judgment) o
    unfolding goal_with
    goal_on t q F b' o E = record {
      grown = grown_then m t o F.grown E.grown;
      comes = λ w e R T.
          let P = put_on t q F w e R T in
          subst (λ x. Comes b' l w x o) (sym (then_got w.lent (put_for_l w.setting y g.judgment) (λ p. chain w.setting (deeper w 1) p) e q P.state P.is_so)) (E.comes w P.state P.ready P.has);
    }

    -- there is no room for it
    pub goal_short : (x : Refusal) → PutsFor work work' words words' l m g.eigen y g.judgment (Err x) → AnswersFor (lends pack work words proof) (lends pack work' words' proof) l m (Termed g y) (λ w. goal_run w y g.judgment) (Refused x)
    unfolding goal_with
    goal_short x F = record {
      grown = tt;
      comes = λ w e R T. then_refused w.lent (put_for_l w.setting y g.judgment) _ e x (F.comes pack proof w e R T.given.eigen T.of_sort.stored T.given.has.stored);
    }
