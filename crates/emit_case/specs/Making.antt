-- A new case variable: its pattern, then its line and its name.
use Rattle.std.specs.Prelude.{Result, Ok, Err}
use Rattle.std.specs.Prelude.{◌≡◌, refl}
use Rattle.std.proofs.Common.{sym, ◌∙◌, arith}
use Rattle.std.proofs.Math.Path.{ap, subst}
use mathlib.Core.List.{List, [], ◌∷◌, ◌++◌}
use Rattle.std.proofs.Math.Option.{some}
use Prim.Native.Nat.{ℕ, suc, ◌≤◌, ◌<◌}
use Rattle.std.proofs.Math.ListN.{length, get_or}
use Rattle.definition.specs.Pack.{prop, Node, no_node}
use Rattle.definition.specs.Good.{Good, Few}
use Rattle.definition.specs.Store.{variable_node, variable_head}
use Rattle.definition.specs.Frame.{refuse}
use Rattle.definition.specs.Answer.{Lent}
use Rattle.definition.specs.Run.{outcome}
use Rattle.definition.specs.declared.Refusal.{Refusal}
use Rattle.store.specs.Words.{node_with}
use Rattle.emission.specs.Line.{Line, var_line, Tally, counting, tally}
use Rattle.emission.proofs.Laws.Text.{tally-one-more}
use Rattle.emission.specs.State.{Emitter, Setting, Undone, Tried, change, interned, write, having_name}
use Rattle.emission.specs.Induct.{case_number}
use Rattle.emit_theory.specs.Graph.Intern.{variable_sorted}
use Rattle.emit_theory.specs.Sound.{Names, Sound, Grew, grew_none}
use Rattle.emit_theory.specs.Comes.{Comes, gives, changes, then_comes, now_comes, weaker}
use Rattle.emit_theory.specs.Writes.{named_more, sound_name, write_comes}
use Rattle.emit_theory.specs.Search.Cases.{interned_comes}
use Rattle.emit_state.specs.Holding.{Buffers, lends, World, Ready, got}
use Rattle.emit_state.specs.Turns.{then_got, then_refused}
use Rattle.emit_state.specs.Onward.{goes_on, ready_on}
use Rattle.emit_state.specs.Searches.{now_then}
use Rattle.emit_state.specs.declared.places.Places.{Places}
use Rattle.emit_state.specs.declared.standing.Standing.{Standing}
use Rattle.emit_case.specs.Asked.{AskedFor}
use Rattle.emit_case.specs.Leaves.{PutTo, GrownTo}
use Rattle.emit_case.specs.Interning.{Interns}
use Rattle.emit_case.specs.Variables.{name_run, variable_run, SortGiven, Unnamed, Makes}
use Rattle.emit_case.specs.Naming.{variables_are}

-- the node of the next case variable
abbrev pub next_node : Emitter → ℕ → Node
next_node e sort = variable_node (case_number (tally e.undone.lines).variables) sort

-- a var line is one variable more
variables_one-more : (ls : List Line) (sort : ℕ) → (tally (ls ++ (var_line sort ∷ []))).variables ≡ suc (tally ls).variables
unfolding counting
variables_one-more ls sort = ap (λ (t : Tally). t.variables) (tally-one-more ls (var_line sort))

-- there is one variable more than there were
abbrev pub OneMore : Emitter → ℕ → Emitter → Type 0
OneMore e v e₁ = (tally e₁.undone.lines).variables ≡ suc (tally e.undone.lines).variables

-- of a pattern: it is the next variable's, and no line has changed
abbrev pub Next : ℕ → Emitter → ℕ → Emitter → Type 0
Next sort e v e₁ = (e₁.undone ≡ e.undone) × (v < length e₁.kept.store) × (get_or e₁.kept.store v no_node ≡ next_node e sort)

-- as the state that has it says it
next-node : (sort : ℕ) (e : Emitter) (v : ℕ) (e₁ : Emitter) → Next sort e v e₁ → get_or e₁.kept.store v no_node ≡ next_node e₁ sort
next-node sort e v e₁ N = N.2 ∙ ap (λ (u : Undone). variable_node (case_number (tally u.lines).variables) sort) (sym N.0)

-- ---- the state stays sound, and has a variable more
module _ (S : Setting) (sort : ℕ) (proper : sort ≡ prop → ⊥) (e : Emitter) (s : Sound S e) where
  -- line and name
  pub name_comes : (v : ℕ) → v < length e.kept.store → get_or e.kept.store v no_node ≡ next_node e sort → Comes S (OneMore e) (name_run S v sort) e
  unfolding name_run
  name_comes v h n =
      let k = (tally e.undone.lines).variables in
      now_comes S (OneMore e) _ e s (then_comes S _ (OneMore e) (write S (var_line sort)) _ e (write_comes S e s (var_line sort))
      (λ _ e₂ g₂ t₂ q.
      let lines₂ : e₂.undone.lines ≡ e.undone.lines ++ (var_line sort ∷ []) = ap (λ (x : Emitter). x.undone.lines) q in
      let store₂ : e₂.kept.store ≡ e.kept.store = ap (λ (x : Emitter). x.kept.store) q in
      let m : (tally e₂.undone.lines).variables ≡ suc k = ap (λ (x : List Line). (tally x).variables) lines₂ ∙ variables_one-more e.undone.lines sort in
      let N : Names e₂.undone.lines e₂.kept.store v k = record {
        there = omega (arith, m);
        stored = subst (λ (w : List Node). v < length w) (sym store₂) h;
        sort = sort;
        node = ap (λ (w : List Node). get_or w v no_node) store₂ ∙ n;
        proper = proper;
      } in
      let G : Grew e₂ (having_name v k e₂) = record { lines = (grew_none e₂).lines; store = (grew_none e₂).store; names = named_more v k e₂.undone.names } in
      then_comes S _ (OneMore e) (change (having_name v k)) _ e₂ (changes S (having_name v k) e₂ G (sound_name S e₂ t₂ v k N))
      (λ _ e₃ g₃ t₃ r. gives S (OneMore e) v e₃ t₃ (ap (λ (x : Emitter). (tally x.undone.lines).variables) r ∙ m))))

module _ (S : Setting) (good : Good S.pack) (few : Few S.pack) (sort : ℕ) (e : Emitter) (s : Sound S e) where
  -- the pattern
  pub next_comes : Comes S (Next sort e) (interned (next_node e sort)) e
  next_comes = interned_comes S good few (next_node e sort) e s (variable_sorted S.pack e.kept.store (length e.kept.store) (case_number (tally e.undone.lines).variables) sort)

  -- pattern, line and name
  pub variable_comes : (sort ≡ prop → ⊥) → Comes S (OneMore e) (variable_run S sort) e
  unfolding variable_run
  variable_comes proper =
      now_comes S _ _ e s (then_comes S (Next sort e) (OneMore e) (interned (next_node e sort)) (λ v. name_run S v sort) e next_comes
      (λ v e₁ g t N. weaker S (OneMore e₁) (OneMore e) (name_run S v sort) e₁ (name_comes S sort proper e₁ t v N.1 (next-node sort e v e₁ N))
      (λ _ e₂ _ _ q. q ∙ ap (λ (u : Undone). suc (tally u.lines).variables) N.0)))

-- ---- on plain values
module _ (lent : Lent) (S : Setting) (sort : ℕ) (e : Emitter) where
  -- the pattern is gone on from
  variable-got : (v : ℕ) (e₁ : Emitter) → outcome lent (interned (next_node e sort) e) ≡ got v e₁ → outcome lent (variable_run S sort e) ≡ outcome lent (name_run S v sort e₁)
  unfolding variable_run
  variable-got v e₁ h = ap (outcome lent) (now_then _ e) ∙ then_got lent (interned (next_node e sort)) _ e v e₁ h

  -- there is no room for it
  variable_short : (x : Refusal) → outcome lent (interned (next_node e sort) e) ≡ refuse x → outcome lent (variable_run S sort e) ≡ refuse x
  unfolding variable_run
  variable_short x h = ap (outcome lent) (now_then _ e) ∙ then_refused lent (interned (next_node e sort)) _ e x h

-- grown and grown again
grown_on : (m t : Standing) (r : Result (Standing × ℕ) Refusal) → m.store.len ≤ t.store.len → GrownTo t r → GrownTo m r
grown_on m t (Ok (u, v)) h g = omega arith
grown_on m t (Err x) h g = tt

-- the key of the next variable
abbrev pub next_key : Standing → ℕ → List ℕ
next_key m sort = variable_head ∷ case_number m.variables ∷ sort ∷ []

-- ---- in states that the buffers hold
module _ (pack work words proof work' words' : List ℕ) (l : Places) (m : Standing) (sort : ℕ) where
  -- the buffers ahead of it
  abbrev ahead : Buffers
  ahead = lends pack work words proof

  -- the buffers behind the pattern
  abbrev between : Buffers
  between = lends pack work' words' proof

  -- the node of the next variable's key
  key-node : (w : World) (e : Emitter) → Ready ahead l m w e → node_with (next_key m sort) ≡ next_node e sort
  unfolding node_with
  key-node w e R = ap (λ (k : ℕ). variable_node (case_number k) sort) (sym (variables_are ahead l m w e R.holding))

  -- there was no room for the pattern
  pub variable-refused : (x : Refusal) → Interns work work' words words' l m (next_key m sort) (Err x) → (b' : Buffers) → Makes ahead b' l m (SortGiven sort) (λ w. variable_run w.setting sort) (Err x)
  variable-refused x I b' = record {
    grown = tt;
    comes = λ w e R G. variable_short w.lent w.setting sort e x (ap (λ (n : Node). outcome w.lent (interned n e)) (sym (key-node w e R)) ∙ I.comes pack proof w e R);
  }

  module _ (t : Standing) (v : ℕ) (I : Interns work work' words words' l m (next_key m sort) (Ok (t, v))) where
    -- the state with the pattern
    record Interned (w : World) (e : Emitter) : Type 0 where
      state : Emitter
      is_so : outcome w.lent (interned (next_node e sort) e) ≡ got v state
      ready : Ready between l t w state
      unnamed : Unnamed v sort w state

    -- there is one
    is_interned : (w : World) (e : Emitter) → Ready ahead l m w e → SortGiven sort w e → Interned w e
    is_interned w e R G =
        let S = w.setting in
        let P = R.holding.proper in
        let C = I.comes pack proof w e R in
        let q : outcome w.lent (interned (next_node e sort) e) ≡ got v C.0 = ap (λ (n : Node). outcome w.lent (interned n e)) (sym (key-node w e R)) ∙ C.1 in
        let T : Tried ℕ = record { result = some v; state = C.0 } in
        let Q : ℕ → Emitter → Type 0 = Next sort e in
        let O = goes_on w.lent S Q (interned (next_node e sort)) e T (next_comes S P.good P.few sort e R.sound) q in
        let N = O.holds v refl in
        record {
          state = C.0;
          is_so = q;
          ready = ready_on ahead between l m t w e Q T R O C.2;
          unnamed = record { stored = N.1; node = next-node sort e v C.0 N; proper = G.proper };
        }

    -- its line and its name can be made
    pub name-asked : AskedFor ahead l m (SortGiven sort) → AskedFor between l t (Unnamed v sort)
    name-asked A = let N = is_interned A.world A.state A.ready A.holds in record { world = A.world; state = N.state; ready = N.ready; holds = N.unnamed }

    -- and were
    pub variable_makes : (b' : Buffers) (r : Result (Standing × ℕ) Refusal) → Makes between b' l t (Unnamed v sort) (λ w. name_run w.setting v sort) r → Makes ahead b' l m (SortGiven sort) (λ w. variable_run w.setting sort) r
    variable_makes b' r M = record {
      grown = grown_on m t r I.grown M.grown;
      comes = λ w e R G.
          let N = is_interned w e R G in
          subst (λ o. PutTo b' l w o r) (sym (variable-got w.lent w.setting sort e v N.state N.is_so)) (M.comes w N.state N.ready N.unnamed);
    }
