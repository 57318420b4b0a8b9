-- The loop over a constructor's inputs: each has its variable made, and what is left to do gives what the whole gives.
use Rattle.std.specs.Prelude.{Ok}
use Rattle.std.specs.Prelude.{◌≡◌, refl, ℕ, zero, suc, ◌+◌, ◌≤◌, ◌<◌, length, get_or, set, take, drop}
use Rattle.std.proofs.Common.{sym, ◌∙◌, arith, drop_of_length-le, drop-cons, take-suc-set}
use Rattle.std.proofs.Math.Path.{ap}
use mathlib.Core.List.{List, [], ◌∷◌, ◌++◌, map, append_assoc, append-nil}
use Rattle.std.proofs.Math.Option.{some}
use Rattle.definition.specs.Pack.{prop}
use Rattle.definition.specs.Good.{Good, Few}
use Rattle.definition.specs.Verdict.{Bound}
use Rattle.definition.specs.Analysis.{pairing}
use Rattle.definition.specs.Frame.{Read, refuse}
use Rattle.definition.specs.Answer.{Lent}
use Rattle.definition.specs.Run.{outcome, first_short}
use Rattle.definition.specs.declared.Refusal.{Refusal}
use Rattle.emission.specs.Line.{var_line, tally}
use Rattle.emission.specs.State.{Emitter, Setting, Undone, Tried, Search, ◌>>=◌, give, change, interned, write, having_name}
use Rattle.emission.specs.Induct.{case_variables}
use Rattle.emit_theory.specs.Sound.{Sound}
use Rattle.emit_state.specs.Holding.{Buffers, World, Ready, got}
use Rattle.emit_state.specs.Turns.{then_got, then_refused}
use Rattle.emit_state.specs.Onward.{goes_on, ready_on}
use Rattle.emit_state.specs.Searches.{now_then, give_then, then_assoc, then_ext, then_outcome, then_alike, then_give}
use Rattle.emit_state.specs.declared.places.Places.{Places}
use Rattle.emit_state.specs.declared.standing.Standing.{Standing}
use Rattle.emit_case.specs.Leaves.{PutTo}
use Rattle.emit_case.specs.Variables.{name_run, variable_run, numbers_from}
use Rattle.emit_case.specs.Making.{next_node, OneMore, Next, next_comes, variable_comes}

-- the variables that are left, behind those that are made
unfoldable pub making : Setting → List ℕ → List Bound → Search (List Bound)
making S sorts made = case_variables S sorts >>= λ vs. give (made ++ vs)

-- ---- one variable on plain values
-- a line and a name, and on
name_then : {B : Type 0} (S : Setting) (v sort : ℕ) (h : ℕ → Search B) (e : Emitter)
    → (name_run S v sort >>= h) e ≡ (write S (var_line sort) >>= λ _. change (having_name v (tally e.undone.lines).variables) >>= λ _. h v) e
unfolding name_run
name_then S v sort h e =
    let k = (tally e.undone.lines).variables in
    then_assoc _ _ h e ∙ now_then _ e ∙ then_assoc (write S (var_line sort)) _ h e
    ∙ then_ext (write S (var_line sort)) _ _ e (λ _ e₁. then_assoc (change (having_name v k)) _ h e₁ ∙ then_ext (change (having_name v k)) _ _ e₁ (λ _ e₂. give_then v h e₂))

module _ (lent : Lent) (S : Setting) (good : Good S.pack) (few : Few S.pack) (sort : ℕ) (sorts : List ℕ) (made : List Bound) (e : Emitter) (s : Sound S e) where
  -- the variable's number in lines, with its pattern
  abbrev numbered : ℕ → Bound
  numbered v = pairing (suc (tally e.undone.lines).variables) v

  -- what is left behind a variable
  abbrev onward : ℕ → Search (List Bound)
  onward v = case_variables S sorts >>= λ vs. give (numbered v ∷ vs)

  -- the first variable, and on
  first_then : outcome lent (case_variables S (sort ∷ sorts) e) ≡ outcome lent ((variable_run S sort >>= onward) e)
  unfolding case_variables variable_run
  first_then =
      let k = (tally e.undone.lines).variables in
      let N = interned (next_node e sort) in
      ap (outcome lent) (now_then _ e)
      ∙ then_alike lent N _ (λ v. name_run S v sort >>= onward) e (λ v e₁ h.
      let O = goes_on lent S (Next sort e) N e (record { result = some v; state = e₁ }) (next_comes S good few sort e s) h in
      let same : (tally e.undone.lines).variables ≡ (tally e₁.undone.lines).variables = ap (λ (u : Undone). (tally u.lines).variables) (sym (O.holds v refl).0) in
      ap (λ (n : ℕ). outcome lent ((write S (var_line sort) >>= λ _. change (having_name v n) >>= λ _. onward v) e₁)) same ∙ ap (outcome lent) (sym (name_then S v sort onward e₁)))
      ∙ ap (outcome lent) (sym (then_assoc _ _ onward e ∙ now_then _ e ∙ then_assoc N _ onward e))

  -- it is made
  pub made_got : (v : ℕ) (e' : Emitter) → outcome lent (variable_run S sort e) ≡ got v e' → outcome lent (making S (sort ∷ sorts) made e) ≡ outcome lent (making S sorts (made ++ (numbered v ∷ [])) e')
  unfolding making
  made_got v e' h =
      then_outcome lent (case_variables S (sort ∷ sorts)) (onward v) (λ vs. give (made ++ vs)) e e' (first_then ∙ then_got lent (variable_run S sort) onward e v e' h)
      ∙ ap (outcome lent) (then_assoc (case_variables S sorts) _ _ e' ∙ then_ext (case_variables S sorts) _ _ e'
      (λ vs e₁. give_then (numbered v ∷ vs) _ e₁ ∙ ap (λ (zs : List Bound). give zs e₁) (sym (append_assoc made (numbered v ∷ []) vs))))

  -- a buffer is short
  pub made-refused : (x : Refusal) → outcome lent (variable_run S sort e) ≡ refuse x → outcome lent (making S (sort ∷ sorts) made e) ≡ refuse x
  unfolding making
  made-refused x h = then_refused lent (case_variables S (sort ∷ sorts)) _ e x (first_then ∙ then_refused lent (variable_run S sort) onward e x h)

-- all are made
made_all : (lent : Lent) (S : Setting) (made : List Bound) (e : Emitter) → outcome lent (making S [] made e) ≡ got made e
unfolding making case_variables outcome first_short
made_all lent S made e = ap (outcome lent) (give_then [] _ e) ∙ ap (λ (zs : List Bound). got zs e) (append-nil made)

-- none is made yet
made_none : (lent : Lent) (S : Setting) (sorts : List ℕ) (e : Emitter) → outcome lent (making S sorts [] e) ≡ outcome lent (case_variables S sorts e)
unfolding making
made_none lent S sorts e = then_give lent (case_variables S sorts) e

-- ---- numbers
-- one number more
pub numbers_more : (i k : ℕ) → numbers_from i k ++ ((k + i) ∷ []) ≡ numbers_from (suc i) k
unfolding numbers_from
numbers_more zero k = let z : k + 0 ≡ k = omega arith in ap (λ (n : ℕ). n ∷ []) z
numbers_more (suc i) k = let z : k + suc i ≡ suc k + i = omega arith in ap (λ (n : ℕ). k ∷ (numbers_from i (suc k) ++ (n ∷ []))) z ∙ ap (λ (ns : List ℕ). k ∷ ns) (numbers_more i (suc k))

-- a list with one more, mapped
map_more : (f : Bound → ℕ) (bs : List Bound) (v : Bound) → map f (bs ++ (v ∷ [])) ≡ map f bs ++ (f v ∷ [])
map_more f [] v = refl
map_more f (b ∷ bs) v = ap (λ (ns : List ℕ). f b ∷ ns) (map_more f bs v)

-- ---- the loop
-- the variables of the sorts from place i on are left, and what was to be done
pub record VariablesLeft (b : Buffers) (l : Places) (t : Standing) (w : World) (sorts : List ℕ) (first : ℕ) (vs : List ℕ) (i : ℕ) (whole : Read (Tried (List Bound))) : Type 0 where
  pub state : Emitter
  pub ready : Ready b l t w state
  pub made : List Bound
  pub patterns : map (λ (v : Bound). v.value) made ≡ take i vs
  pub numbers : map (λ (v : Bound). v.variable) made ≡ numbers_from i (suc first)
  pub count : (tally state.undone.lines).variables ≡ first + i
  pub rest : outcome w.lent (making w.setting (drop i sorts) made state) ≡ whole

-- none is made
pub variables_first : (b : Buffers) (l : Places) (m : Standing) (w : World) (e : Emitter) (sorts vs : List ℕ) → Ready b l m w e
    → VariablesLeft b l m w sorts (tally e.undone.lines).variables vs 0 (outcome w.lent (case_variables w.setting sorts e))
unfolding numbers_from
variables_first b l m w e sorts vs R = record { state = e; ready = R; made = []; patterns = refl; numbers = refl; count = omega arith; rest = made_none w.lent w.setting sorts e }

module _ (b : Buffers) (l : Places) (t : Standing) (w : World) (sorts : List ℕ) (first : ℕ) (vs : List ℕ) (i : ℕ) (whole : Read (Tried (List Bound))) (G : VariablesLeft b l t w sorts first vs i whole) where
  -- all are made
  pub variables_all : length sorts ≤ i → whole ≡ got G.made G.state
  variables_all h = sym G.rest ∙ ap (λ (zs : List ℕ). outcome w.lent (making w.setting zs G.made G.state)) (drop_of_length-le sorts h) ∙ made_all w.lent w.setting G.made G.state

  module _ (h : i < length sorts) (proper : get_or sorts i 0 ≡ prop → ⊥) where
    -- the next sort, and those behind it
    rest_here : outcome w.lent (making w.setting (get_or sorts i 0 ∷ drop (suc i) sorts) G.made G.state) ≡ whole
    rest_here = sym (ap (λ (zs : List ℕ). outcome w.lent (making w.setting zs G.made G.state)) (drop-cons sorts i 0 h)) ∙ G.rest

    -- a buffer is short
    pub variables_refused : (x : Refusal) → outcome w.lent (variable_run w.setting (get_or sorts i 0) G.state) ≡ refuse x → whole ≡ refuse x
    variables_refused x q =
        let P = G.ready.holding.proper in
        sym rest_here ∙ made-refused w.lent w.setting P.good P.few (get_or sorts i 0) (drop (suc i) sorts) G.made G.state G.ready.sound x q

    -- the next variable is made
    pub variables_on : i < length vs → (b' : Buffers) (u : Standing) (v : ℕ) → PutTo b' l w (outcome w.lent (variable_run w.setting (get_or sorts i 0) G.state)) (Ok (u, v)) → VariablesLeft b' l u w sorts first (set vs i v) (i + 1) whole
    variables_on room b' u v C =
        let S = w.setting in
        let e = G.state in
        let P = G.ready.holding.proper in
        let sort = get_or sorts i 0 in
        let T : Tried ℕ = record { result = some v; state = C.0 } in
        let Q : ℕ → Emitter → Type 0 = OneMore e in
        let O = goes_on w.lent S Q (variable_run S sort) e T (variable_comes S P.good P.few sort e G.ready.sound proper) C.1 in
        let k : i + 1 ≡ suc i = omega arith in
        let n : suc (tally e.undone.lines).variables ≡ suc first + i = omega (arith, G.count) in
        let p : Bound = pairing (suc (tally e.undone.lines).variables) v in
        record {
          state = C.0;
          ready = ready_on b b' l t u w e Q T G.ready O C.2;
          made = G.made ++ (p ∷ []);
          patterns = map_more (λ (x : Bound). x.value) G.made p ∙ ap (λ (zs : List ℕ). zs ++ (v ∷ [])) G.patterns ∙ sym (ap (λ (z : ℕ). take z (set vs i v)) k ∙ take-suc-set vs i v room);
          numbers = map_more (λ (x : Bound). x.variable) G.made p ∙ ap (λ (zs : List ℕ). zs ++ (suc (tally e.undone.lines).variables ∷ [])) G.numbers
              ∙ ap (λ (z : ℕ). numbers_from i (suc first) ++ (z ∷ [])) n ∙ numbers_more i (suc first) ∙ ap (λ (z : ℕ). numbers_from z (suc first)) (sym k);
          count = omega (arith, O.holds v refl, G.count);
          rest = ap (λ (z : ℕ). outcome w.lent (making S (drop z sorts) (G.made ++ (p ∷ [])) C.0)) k
              ∙ sym (made_got w.lent S P.good P.few sort (drop (suc i) sorts) G.made e G.ready.sound v C.0 C.1) ∙ rest_here;
        }
