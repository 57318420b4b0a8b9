-- A constructor's term over its variables, and its judgment under the hypotheses of those of L's sort.
use Rattle.std.specs.Prelude.{Ok, Err}
use Rattle.std.specs.Prelude.{◌≡◌, refl, true, false, ℕ, ◌≤◌, ◌<◌, eqb, length, take}
use Rattle.std.proofs.Common.{sym, ◌∙◌, arith}
use Rattle.std.proofs.Math.Path.{ap, subst}
use mathlib.Core.List.{List, [], ◌∷◌}
use Rattle.std.proofs.Math.Option.{some}
use Rattle.definition.specs.Test.{is, see}
use Rattle.definition.specs.Pack.{prop, most_arity, Node, symbol_of}
use Rattle.definition.specs.Run.{outcome}
use Rattle.definition.specs.declared.Refusal.{Refusal}
use Rattle.store.specs.Words.{node_with}
use Rattle.emission.specs.State.{Emitter, Setting, Tried, Search, interned}
use Rattle.emission.specs.Induct.{recursive}
use Rattle.emit_theory.specs.Patterns.{Of, no_of, of_more}
use Rattle.emit_theory.specs.Sound.{Grew}
use Rattle.emit_theory.specs.Search.Proving.{Has, HasAll, has_on, has_all_on}
use Rattle.emit_theory.specs.Search.Cases.{application_comes}
use Rattle.emit_theory.specs.Search.Inducting.{LikeL, recursive_like}
use Rattle.emit_state.specs.Holding.{Buffers, lends, World, Ready, Comes, got}
use Rattle.emit_state.specs.Turns.{then_got, then_refused}
use Rattle.emit_state.specs.Onward.{goes_on, ready_on}
use Rattle.emit_state.specs.declared.places.Places.{Places}
use Rattle.emit_state.specs.declared.standing.Standing.{Standing}
use Rattle.emit_state.specs.declared.standing.Proved.{Proved}
use Rattle.emit_state.specs.declared.standing.Proved.TheVariants.{Refused}
use Rattle.emit_case.specs.Asked.{AskedFor, AnswersFor, Given, Inducted}
use Rattle.emit_case.specs.Runs.{supposing_run, over_run}
use Rattle.emit_case.specs.Interning.{AskedNode, Interns}
use Rattle.emit_case.specs.Putting.{grown_then}
use Rattle.emit_case.specs.Variables.{Filtering, Filters}
use Rattle.emit_case.specs.Naming.{pack_readable}
use Rattle.emit_case.specs.Inputs.{symbol_record}
use Rattle.emit_case.specs.Case.{over_case, Varied, Cased}
use Rattle.emit_case.specs.declared.goal.Inducting.{Inducting}

-- ---- on plain values
-- those of a sort are no more than all
recursive_fewer : (sort : ℕ) (ss vs : List ℕ) → length (recursive sort ss vs) ≤ length vs
unfolding recursive
recursive_fewer sort [] vs = omega arith
recursive_fewer sort (s ∷ ss) [] = omega arith
recursive_fewer sort (s ∷ ss) (v ∷ vs) = let ih = recursive_fewer sort ss vs in elim (see (eqb s sort)) [
  | is true t ↦ rw (t, recursive) (omega arith)
  | is false t ↦ rw (t, recursive) (omega arith)
]

-- one pattern for each sort
all_long : (S : Setting) (e : Emitter) (sorts vs : List ℕ) → HasAll S e sorts vs → length vs ≡ length sorts
all_long S e _ _ no_of = refl
all_long S e _ _ (of_more so v sorts vs h hs) = let ih = all_long S e sorts vs hs in omega arith

-- an application
abbrev pub over : ℕ → List ℕ → Node
over c vs = record { head = c; args = vs }

-- its key
pub key-node : (c : ℕ) (vs zs : List ℕ) → zs ≡ c ∷ vs → node_with zs ≡ over c vs
unfolding node_with
key-node c vs zs z = ap node_with z

-- the judgment is one still
pub given_on : (g : Inducting) (w : World) (e e' : Emitter) → Grew e e' → Given g w e → Given g w e'
given_on g w e e' G K = record { eigen = K.eigen; sort = K.sort; has = has_on w.setting e e' G prop g.judgment K.has }

-- ---- a constructor over its variables
-- the buffers of the patterns, and a key that is not empty
pub key-asked : (pack work words proof : List ℕ) (l : Places) (m : Standing) (Q : World → Emitter → Type 0) (c : ℕ) (vs zs : List ℕ) → zs ≡ c ∷ vs → AskedFor (lends pack work words proof) l m Q → AskedNode work words l m × (0 < length zs)
key-asked pack work words proof l m Q c vs zs z A = (record { pack = pack; proof = proof; world = A.world; state = A.state; ready = A.ready }, omega (arith, ap length z))

module _ (pack work words proof work' words' : List ℕ) (l : Places) (m : Standing) (g : Inducting) (c : ℕ) (vs rs zs : List ℕ) (z : zs ≡ c ∷ vs) where
  -- the buffers ahead of it
  abbrev ahead : Buffers
  ahead = lends pack work words proof

  -- the buffers behind the term
  abbrev between : Buffers
  between = lends pack work' words' proof

  -- the run of all
  abbrev over_all : World → Search ℕ
  over_all w = over_case w g.judgment c vs

  -- there is no room for the term
  pub over_short : (x : Refusal) → Interns work work' words words' l m zs (Err x) → AnswersFor ahead between l m (Cased g c vs rs) over_all (Refused x)
  unfolding over_run
  over_short x I = record {
    grown = tt;
    comes = λ w e R K. then_refused w.lent (interned (over c vs)) _ e x (ap (λ (n : Node). outcome w.lent (interned n e)) (sym (key-node c vs zs z)) ∙ I.comes pack proof w e R);
  }

  module _ (t : Standing) (term : ℕ) (I : Interns work work' words words' l m zs (Ok (t, term))) where
    -- the state with the term
    record Termed (w : World) (e : Emitter) : Type 0 where
      state : Emitter
      is_so : outcome w.lent (interned (over c vs) e) ≡ got term state
      ready : Ready between l t w state
      inducted : Inducted g term rs w state

    -- there is one
    is_termed : (w : World) (e : Emitter) → Ready ahead l m w e → Cased g c vs rs w e → Termed w e
    is_termed w e R K =
        let S = w.setting in
        let P = R.holding.proper in
        let D = K.varied in
        let inputs = (symbol_of S.pack c).inputs in
        let output = (symbol_of S.pack c).output in
        let C = I.comes pack proof w e R in
        let e₂ = C.0 in
        let q : outcome w.lent (interned (over c vs) e) ≡ got term e₂ = ap (λ (n : Node). outcome w.lent (interned n e)) (sym (key-node c vs zs z)) ∙ C.1 in
        let T : Tried ℕ = record { result = some term; state = e₂ } in
        let Q : ℕ → Emitter → Type 0 = λ p e₁. (e₁.undone ≡ e.undone) × Of S.pack S.eigen e.undone.names e₁.kept.store output p in
        let O = goes_on w.lent S Q (interned (over c vs)) e T (application_comes S P.few e.undone.names c vs e R.sound D.in_case.symbol D.has_all) q in
        let N = O.holds term refl in
        let Y : Has S e₂ output term = subst (λ u. Of S.pack S.eigen u.names e₂.kept.store output term) (sym N.0) N.1 in
        let G = given_on g w e e₂ O.grew D.in_case.given in
        let all = has_all_on S e e₂ O.grew inputs vs D.has_all in
        record {
          state = e₂;
          is_so = q;
          ready = ready_on ahead between l m t w e Q T R O C.2;
          inducted = record {
            none = D.in_case.none;
            termed = record { given = G; of_sort = subst (λ (so : ℕ). Has S e₂ so term) D.in_case.output Y };
            recursive = record {
              given = G;
              few = omega (arith, ap length K.those, recursive_fewer S.sort inputs vs, D.few);
              like = subst (λ (ys : List ℕ). LikeL S e₂ ys) (sym K.those) (recursive_like S P.good P.few e₂ inputs vs all);
            };
          };
        }

    -- its judgment is asked for
    pub over-asked : AskedFor ahead l m (Cased g c vs rs) → AskedFor between l t (Inducted g term rs)
    over-asked A = let N = is_termed A.world A.state A.ready A.holds in record { world = A.world; state = N.state; ready = N.ready; holds = N.inducted }

    -- and is the answer
    pub over_on : (b' : Buffers) (r : Proved) → AnswersFor between b' l t (Inducted g term rs) (λ w. supposing_run w.setting term g.judgment rs) r → AnswersFor ahead b' l m (Cased g c vs rs) over_all r
    unfolding over_run
    over_on b' r E = record {
      grown = grown_then m t r I.grown E.grown;
      comes = λ w e R K.
          let S = w.setting in
          let N = is_termed w e R K in
          let q = ap (λ (ys : List ℕ). outcome w.lent (over_run S c vs g.judgment ys e)) (sym K.those)
          ∙ then_got w.lent (interned (over c vs)) (λ p. supposing_run S p g.judgment rs) e term N.state N.is_so in
          subst (λ o. Comes b' l w o r) (sym q) (E.comes w N.state N.ready N.inducted);
    }

-- ---- those of L's sort
-- they can be sought
pub sought-asked : (b : Buffers) (l : Places) (m : Standing) (g : Inducting) (c : ℕ) (vs rs : List ℕ) → AskedFor b l m (Varied g c vs) → length rs ≡ most_arity → Filtering b.pack b.work l c vs rs
sought-asked b l m g c vs rs A room =
    let w = A.world in
    let e = A.state in
    let H = A.ready.holding in
    let D = A.holds in
    record {
      readable = pack_readable b l m w e H;
      symbol = symbol_record b l m w e H c D.in_case.symbol;
      many = omega (arith, all_long w.setting e (symbol_of w.setting.pack c).inputs vs D.has_all);
      few = D.few;
      room = room;
    }

module _ (b : Buffers) (l : Places) (m : Standing) (g : Inducting) (c : ℕ) (vs rs : List ℕ) (r : ℕ) (F : Filters b.pack b.work l g.sort c vs rs r) (zs : List ℕ) (z : zs ≡ take r rs) where
  -- they are those
  is_cased : (w : World) (e : Emitter) → Ready b l m w e → Varied g c vs w e → Cased g c vs zs w e
  is_cased w e R D = record {
    varied = D;
    those = z ∙ F.listed w.setting.pack R.holding.reads ∙ ap (λ (so : ℕ). recursive so (symbol_of w.setting.pack c).inputs vs) D.in_case.given.sort;
  }

  -- the judgment under their hypotheses is asked for
  pub cased_asked : AskedFor b l m (Varied g c vs) → AskedFor b l m (Cased g c vs zs)
  cased_asked A = record { world = A.world; state = A.state; ready = A.ready; holds = is_cased A.world A.state A.ready A.holds }

  -- and is the answer
  pub cased_on : (b' : Buffers) (o : Proved) → AnswersFor b b' l m (Cased g c vs zs) (λ w. over_case w g.judgment c vs) o → AnswersFor b b' l m (Varied g c vs) (λ w. over_case w g.judgment c vs) o
  cased_on b' o E = record { grown = E.grown; comes = λ w e R D. E.comes w e R (is_cased w e R D) }
