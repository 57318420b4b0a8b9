-- A goal's own steps in their order: behind them the graph has the conclusion of each that isn't cut, and of no other.
use Rattle.std.specs.Prelude.{◌≡◌, Bool, true, false, ℕ, ◌+◌, eqb, length}
use Rattle.std.proofs.Math.Path.{refl, subst}
use Rattle.std.proofs.Common.{sym, ap}
use mathlib.Core.List.{List, [], ◌∷◌, ◌++◌, map, append_assoc, append-nil}
use Rattle.definition.specs.Test.{is, see, never, any}
use Rattle.definition.specs.Pack.{prop, Terms, nil, cons, Pack, rule_of, step_of}
use Rattle.definition.specs.Good.{Good, Few}
use Rattle.definition.specs.Graph.{Graph, up_to}
use Rattle.definition.specs.Analysis.{instantiate}
use Rattle.definition.specs.Keys.{first_of, predicate_of, is_a_cut}
use Rattle.definition.specs.Run.{Run}
use Rattle.emission.specs.State.{Emitter, Setting, Tried, ◌>>=◌, celled}
use Rattle.emission.specs.Lay.{Placed, Laid, Premised, lay_premises, lay_steps}
use Rattle.theory.specs.Copies.Variables.{variables_of}
use Rattle.theory.specs.Keys.Needed.{Among, among_left, among_right, among_one, on_left, on_right, among_side}
use Rattle.emit_theory.specs.Graph.Kept.{Keeps, keeps_refl, keeps_trans, Standing, standing_kept}
use Rattle.emit_theory.specs.Graph.Push.{put_variables, opened_standing}
use Rattle.emit_theory.specs.Graph.Instantiate.{instantiate_sorted}
use Rattle.emit_theory.specs.Sound.{Sound}
use Rattle.emit_theory.specs.Comes.{Comes, gives, then_comes, weaker}
use Rattle.emit_theory.specs.Goal.Behind.{behind_variables, behind_instance}
use Rattle.emit_theory.specs.Goal.Needed.{RefsReady, Ready, AllReady}
use Rattle.emit_theory.specs.Goal.Placed.{Shaped, UsesIn, PlacedIn, AllPlaced, uses_kept, placed-kept, placed-more, steps_of, Own, own_more}
use Rattle.emit_theory.specs.Goal.Lay.{From, from-behind, from_trans, celled_comes, Premises, premises_comes}

-- the steps so far: a graph in good shape with the conclusions of just those of these steps that aren't cut
pub record Laying (P : Pack) (bs : List ℕ) (w : Laid) : Type 0 where
  pub shaped : Shaped P w.graph
  pub placed : AllPlaced P w.graph w.steps
  pub has : (s : ℕ) → Among s bs → is_a_cut P (predicate_of P s) ≡ false → Among s (steps_of w.steps)
  pub only : (s : ℕ) → Among s (steps_of w.steps) → Among s bs
  pub own : Own w.steps w.steps

steps_more : (ps : List Placed) (p : Placed) → steps_of (ps ++ (p ∷ [])) ≡ steps_of ps ++ (p.step ∷ [])
steps_more [] p = refl
steps_more (q ∷ ps) p = ap (λ xs. q.step ∷ xs) (steps_more ps p)

-- refs among the steps so far are among those laid
refs_laid : (P : Pack) (bs : List ℕ) (ps : List Placed) → ((s : ℕ) → Among s bs → is_a_cut P (predicate_of P s) ≡ false → Among s (steps_of ps)) → (ts : Terms) (rs : List ℕ) → RefsReady P bs ts rs → RefsReady P (steps_of ps) ts rs
refs_laid P bs ps h nil rs R = tt
refs_laid P bs ps h (cons t ts) [] R = tt
refs_laid P bs ps h (cons t ts) (r ∷ rs) R = (record { given = R.0.given; placed = λ c. h (first_of P r) (R.0.placed c) c; head = R.0.head }, refs_laid P bs ps h ts rs R.1)

-- a step that is cut is not laid
laying_cut : (P : Pack) (bs : List ℕ) (w : Laid) (s : ℕ) → Laying P bs w → is_a_cut P (predicate_of P s) ≡ true → Laying P (bs ++ (s ∷ [])) w
laying_cut P bs w s W c = record {
  shaped = W.shaped;
  placed = W.placed;
  has = λ t a n. elim (among_side t bs (s ∷ []) a) [
    | on_left q ↦ W.has t q n
    | on_right q ↦ never (let e = among_one t s q in let z : is_a_cut P (predicate_of P s) ≡ false = rw e at n in cc)
  ];
  only = λ t a. among_left t bs (s ∷ []) (W.only t a);
  own = W.own;
}

-- one that isn't has its conclusion in the graph
laying_more : (P : Pack) (bs : List ℕ) (w : Laid) (p : Placed) (h : Graph) → Laying P bs w → any (eqb p.step) bs ≡ false → From P w.graph h → PlacedIn P h p
    → Laying P (bs ++ (p.step ∷ [])) (record { graph = h; steps = w.steps ++ (p ∷ []) })
laying_more P bs w p h W n F N =
    let m = steps_more w.steps p in
    record {
      shaped = F.shaped;
      placed = placed-more P h w.steps p (placed-kept P w.graph h F.keeps w.steps W.placed) N;
      has = λ t a c. rw m (elim (among_side t bs (p.step ∷ []) a) [
        | on_left q ↦ among_left t (steps_of w.steps) (p.step ∷ []) (W.has t q c)
        | on_right q ↦ among_right t (steps_of w.steps) (p.step ∷ []) q
      ]);
      only = λ t a. elim (among_side t (steps_of w.steps) (p.step ∷ []) (rw m at a)) [
        | on_left q ↦ among_left t bs (p.step ∷ []) (W.only t q)
        | on_right q ↦ among_right t bs (p.step ∷ []) q
      ];
      own = own_more w.steps p W.own (elim (see (any (eqb p.step) (steps_of w.steps))) [
        | is false e ↦ e
        | is true e ↦ never (let z = W.only p.step e in cc)
      ]);
    }

-- the steps laid from a graph on
pub record Lays (P : Pack) (g : Graph) (bs : List ℕ) (v : Laid) : Type 0 where
  pub laying : Laying P bs v
  pub keeps : Keeps g v.graph

module _ (S : Setting) (good : Good S.pack) (few : Few S.pack) where
  -- what is to be shown of steps, from any graph on
  abbrev Others : List ℕ → List ℕ → Type 0
  Others bs ss = (v : Laid) (e : Emitter) → Sound S e → Laying S.pack bs v → Comes S (λ x _. Lays S.pack v.graph (bs ++ ss) x) (lay_steps S.pack ss v) e

  module _ (bs : List ℕ) (s : ℕ) (ss : List ℕ) (others : Others (bs ++ (s ∷ [])) ss) (ready : Ready S.pack bs s) where
    others-from : (g : Graph) (v : Laid) (e : Emitter) → Sound S e → Laying S.pack (bs ++ (s ∷ [])) v → Keeps g v.graph → Comes S (λ x _. Lays S.pack g (bs ++ (s ∷ ss)) x) (lay_steps S.pack ss v) e
    others-from g v e t W k =
        let P = S.pack in
        weaker S (λ x _. Lays P v.graph ((bs ++ (s ∷ [])) ++ ss) x) (λ x _. Lays P g (bs ++ (s ∷ ss)) x) (lay_steps P ss v) e (others v e t W)
        (λ x _ _ _ X. record { laying = subst (λ l. Laying P l x) (append_assoc bs (s ∷ []) ss) X.laying; keeps = keeps_trans g v.graph x.graph k X.keeps })

    -- a step's conclusion behind its premises, and then the others
    concluded_comes : (w : Laid) (vars env : List ℕ) (ps : Premised) (e : Emitter) → Sound S e → Laying S.pack bs w → From S.pack w.graph ps.graph → UsesIn S.pack ps.graph ps.uses
        → vars ≡ (rule_of S.pack (step_of S.pack s).rule).vars → Standing S.pack vars env ps.graph
        → let concluded = instantiate (rule_of S.pack (step_of S.pack s).rule).conclusion env ps.graph in
        Comes S (λ x _. Lays S.pack w.graph (bs ++ (s ∷ ss)) x)
        (celled concluded.graph >>= λ _. lay_steps S.pack ss (record { graph = concluded.graph; steps = w.steps ++ (record { step = s; conclusion = concluded.at; uses = ps.uses } ∷ []) })) e
    concluded_comes w vars env ps e t W F U q E =
        let P = S.pack in
        let rule = rule_of P (step_of P s).rule in
        let R = good.rules (step_of P s).rule (good.steps s ready.given).rule in
        let made = instantiate rule.conclusion env ps.graph in
        let I = instantiate_sorted P few rule.vars env rule.conclusion prop ps.graph F.shaped.sorted (subst (λ l. Standing P l env ps.graph) q E) R.conclusion in
        let H = from-behind P ps.graph made.graph F.shaped I.sorted I.begins (behind_instance rule.conclusion env ps.graph) in
        let K = from_trans P w.graph ps.graph made.graph F H in
        let p : Placed = record { step = s; conclusion = made.at; uses = ps.uses } in
        let N : PlacedIn P made.graph p = record { given = ready.given; inside = I.inside; sort = I.sort; uses = uses_kept P ps.graph made.graph H.keeps ps.uses U } in
        then_comes S (λ _ e₁. e₁ ≡ e) (λ x _. Lays P w.graph (bs ++ (s ∷ ss)) x) (celled made.graph) _ e (celled_comes S made.graph e t)
        (λ _ e₁ _ t₁ _. others-from w.graph (record { graph = made.graph; steps = w.steps ++ (p ∷ []) }) e₁ t₁ (laying_more P bs w p made.graph W ready.new K N) K.keeps)

    step-at : (w : Laid) (e : Emitter) → Sound S e → Laying S.pack bs w → (b : Bool) → is_a_cut S.pack (predicate_of S.pack s) ≡ b
        → let rule = rule_of S.pack (step_of S.pack s).rule in
        let env = map (λ k. length w.graph + k) (up_to (length rule.vars)) in
        let opened = w.graph ++ variables_of rule.vars in
        Comes S (λ x _. Lays S.pack w.graph (bs ++ (s ∷ ss)) x) (elim b as (λ _. Emitter → Run (Tried Laid)) [
          | true ↦ lay_steps S.pack ss w
          | false ↦
              celled opened >>= λ _. lay_premises S.pack w.steps env rule.premises (step_of S.pack s).refs (record { graph = opened; uses = [] })
              >>= λ ps. let concluded = instantiate rule.conclusion env ps.graph in
              celled concluded.graph >>= λ _. lay_steps S.pack ss (record { graph = concluded.graph; steps = w.steps ++ (record { step = s; conclusion = concluded.at; uses = ps.uses } ∷ []) })
        ]) e
    step-at w e t W true c = others-from w.graph w e t (laying_cut S.pack bs w s W c) (keeps_refl w.graph)
    step-at w e t W false c =
        let P = S.pack in
        let rule = rule_of P (step_of P s).rule in
        let R = good.rules (step_of P s).rule (good.steps s ready.given).rule in
        let env = map (λ k. length w.graph + k) (up_to (length rule.vars)) in
        let opened = w.graph ++ variables_of rule.vars in
        let O = put_variables P w.graph rule.vars W.shaped.sorted in
        let E = opened_standing P rule.vars w.graph opened O in
        let F = from-behind P w.graph opened W.shaped O.sorted O.begins (behind_variables w.graph rule.vars) in
        let Q : Laid → Emitter → Type 0 = λ x _. Lays P w.graph (bs ++ (s ∷ ss)) x in
        let start : Premised = record { graph = opened; uses = [] } in
        then_comes S (λ _ e₁. e₁ ≡ e) Q (celled opened) _ e (celled_comes S opened e t)
        (λ _ e₁ _ t₁ _. then_comes S (λ v _. Premises P opened v) Q (lay_premises P w.steps env rule.premises (step_of P s).refs start) _ e₁
        (premises_comes S good few w.steps rule.vars env rule.premises (step_of P s).refs R.premises (refs_laid P bs w.steps W.has rule.premises (step_of P s).refs (ready.refs c)) start e₁ t₁ F.shaped E
        (placed-kept P w.graph opened F.keeps w.steps W.placed) tt)
        (λ ps e₂ _ t₂ X. concluded_comes w rule.vars env ps e₂ t₂ W (from_trans P w.graph opened ps.graph F X.from) X.uses refl (standing_kept P rule.vars env opened ps.graph X.from.keeps E)))

  -- steps behind those laid
  pub steps_comes : (ss bs : List ℕ) → AllReady S.pack bs ss → Others bs ss
  unfolding lay_steps
  steps_comes [] bs A w e t W = gives S (λ x _. Lays S.pack w.graph (bs ++ []) x) w e t (record { laying = subst (λ l. Laying S.pack l w) (sym (append-nil bs)) W; keeps = keeps_refl w.graph })
  steps_comes (s ∷ ss) bs A w e t W = step-at bs s ss (λ v e₁ t₁ W₁. steps_comes ss (bs ++ (s ∷ [])) A.1 v e₁ t₁ W₁) A.0 w e t W (is_a_cut S.pack (predicate_of S.pack s)) refl
