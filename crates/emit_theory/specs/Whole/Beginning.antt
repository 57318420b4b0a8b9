-- Where emission begins: L is one pattern more in a well-sorted store, of a sort that is no judgment's, and all maps are empty.
use Rattle.std.specs.Prelude.{◌≡◌, refl, ℕ, suc, ◌<◌, eqb, length}
use Rattle.std.proofs.Common.{sym, ap, ◌∙◌, arith}
use Rattle.std.proofs.Math.Path.{subst}
use Rattle.std.proofs.Math.Bool.{true, false}
use mathlib.Core.List.{List, [], ◌∷◌}
use Rattle.std.proofs.Math.Option.{Option, none, some}
use Rattle.std.proofs.Math.ListN.{get_or}
use Rattle.definition.specs.Test.{is, see, never, all}
use Rattle.definition.specs.Pack.{prop, Pack, node_of, sort_of}
use Rattle.definition.specs.Good.{Good, Few}
use Rattle.definition.specs.Verdict.{value_of, matches, no_goal}
use Rattle.definition.specs.Store.{variable_node, intern, term_of}
use Rattle.definition.specs.Run.{Note, done, need}
use Rattle.definition.specs.Keys.{is_a_cut}
use Rattle.definition.specs.Classes.{no_class}
use Rattle.definition.specs.Goals.{Root}
use Rattle.definition.specs.Calls.{Classed}
use Rattle.emission.specs.Name.{name_of}
use Rattle.emission.specs.Begin.{class_of, is_open, sorts_among, open_sorts, cut_goal, no_cut_goal, Emission, fresh, eigen_number, begin}
use Rattle.emission.specs.Emit.{no_root}
use Rattle.theory.specs.Copies.Copying.{copied_is}
use Rattle.theory.specs.Copies.Terms.{term_applied}
use Rattle.theory.specs.Patterns.Interned.{Grows}
use Rattle.theory.specs.Keys.Needed.{Among}
use Rattle.emit_theory.specs.Stores.{SortedStore, sorted_earlier}
use Rattle.emit_theory.specs.Graph.Intern.{intern-variable}
use Rattle.emit_theory.specs.Graph.Terms.{TermOf, open_sort}
use Rattle.emit_theory.specs.Built.Runs.{run_then, test_holds}
use Rattle.emit_theory.specs.Built.Values.{Fits, matched_term}
use Rattle.emit_theory.specs.Built.Roots.{Classes}
use Rattle.emit_theory.specs.Sound.{Sound}
use Rattle.emit_theory.specs.Whole.Opening.{ValuesProper, match_below, open_among, root_among, all_among, proper_both, among_proper, first_proper, no_cut}
use Rattle.emit_theory.specs.Search.Cases.{Proper}

none-cut : (o : Option ℕ) (ns : List Note) (u : Unit {0}) → no_cut_goal o ≡ done ns u → o ≡ none
unfolding no_cut_goal need
none-cut none ns u e = refl
none-cut (some i) ns u e = never (cc)

-- an empty map has no entry
no_entry : {A : Type 0} (p n : ℕ) → value_of p [] ≡ some n → A
unfolding value_of
no_entry p n z = never (cc)

-- where emission begins
pub record Begun (P : Pack) (c : Classed) (w : Emission) : Type 0 where
  pub classed : w.classed ≡ c
  pub pack : w.setting.pack ≡ P
  pub sound : Sound w.setting w.state
  -- no goal is on a cut predicate
  pub uncut : (i : ℕ) → i < length c.roots → is_a_cut P (node_of P (get_or c.roots i no_root).goal.judgment).head ≡ false
  -- each goal's conclusion is a judgment, with L for the open variables
  pub target : (i : ℕ) → i < length c.roots → let r = get_or c.roots i no_root in TermOf P (open_sort P w.setting.sort (is_open c r) r.values) (term_of c.built.store (class_of c r).conclusion) prop
  pub conclusion : (i : ℕ) → i < length c.roots → (class_of c (get_or c.roots i no_root)).conclusion < length c.built.store
  pub grows : Grows c.built.store w.state.kept.store
  pub nothing_yet : (w.goals ≡ []) × (w.results ≡ [])

module _ (P : Pack) (good : Good P) (few : Few P) (c : Classed) (C : Classes P c) where
  -- a goal's conclusion is an application's term, and its values no judgments
  values_proper : (i : ℕ) → i < length c.roots → ValuesProper P good few (get_or c.roots i no_root).values
  values_proper i l =
      let R = C.roots i (subst (λ n. i < n) C.count l) in
      let r = get_or c.roots i no_root in
      let G = good.goals i (subst (λ n. i < n) C.count l) in
      let s = c.built.store in
      let p = (get_or c.built.classes r.class no_class).conclusion in
      let t = term_applied s (sorted_earlier P s C.store) p (C.conclusions r.class R.class) (C.applied r.class R.class) in
      match_below P good few _ _ (get_or P.goals i no_goal).judgment [] r.values G.judgment.given tt (ap (λ x. matches P x (get_or P.goals i no_goal).judgment []) (sym t) ∙ R.values)

  all_proper : (rs : List Root) → ((i : ℕ) → i < length rs → ValuesProper P good few (get_or rs i no_root).values) → Proper (open_sorts c rs)
  unfolding open_sorts
  all_proper [] h = tt
  all_proper (r ∷ rs) h = proper_both c (sorts_among c r r.values) (open_sorts c rs) (among_proper c r r.values P good few C.pack (h 0 (omega arith))) (all_proper rs (λ i l. h (suc i) (omega arith)))

  -- the sorts of a goal's variables, L's for those that are open
  goal-fits : (so : ℕ) → all (eqb so) (open_sorts c c.roots) ≡ true → (i : ℕ) → i < length c.roots → let r = get_or c.roots i no_root in Fits P (open_sort P so (is_open c r) r.values) r.values
  unfolding open_sort
  goal-fits so a i l k v e =
      let r = get_or c.roots i no_root in
      elim (see (is_open c r k)) [
        | is true t ↦ rw (t, open_sort) (all_among c so (sort_of P v) (open_sorts c c.roots) a (subst (λ x. Among (sort_of x v) (open_sorts c c.roots)) C.pack (root_among c (sort_of c.pack v) c.roots i l (open_among c r r.values k v e t))))
        | is false t ↦ rw (t, open_sort) (ap (sort_of P) (copied_is r.values k v e))
      ]

  -- emission begins in a sound state
  pub begin-left : (ns : List Note) (w : Emission) → begin c ≡ done ns w → Begun P c w
  unfolding begin
  begin-left ns w e = run_then _ _ ns w e (λ _ u₁ ks₁ one e₁. run_then _ _ ks₁ w e₁ (λ _ u₂ ks₂ two e₂. run_then _ _ ks₂ w e₂ (λ _ u₃ ks₃ _ e₃. run_then _ _ ks₃ w e₃ (λ _ u₄ ks₄ _ end.
      let sorts = open_sorts c c.roots in
      let so = get_or sorts 0 0 in
      let s = c.built.store in
      let L = intern s (variable_node eigen_number so) in
      let H = intern-variable P s eigen_number so C.store in
      let same = test_holds (all (eqb so) sorts) _ _ u₁ one in
      let cut = none-cut (cut_goal c.pack c.roots 0) _ u₂ two in
      let made : record { classed = c; setting = record { pack = c.pack; eigen = L.number; name = name_of c.pack; sort = so }; state = fresh L.store; goals = []; results = []; opened = 0; rigid = 0 } ≡ w = cc in
      rw (← made) (record {
        classed = refl;
        pack = C.pack;
        sound = record {
          sorted = subst (λ x. SortedStore x L.store) (sym C.pack) H.sorted;
          L_stored = H.within;
          L_node = H.is;
          L_proper = first_proper c sorts (all_proper c.roots values_proper);
          proved = λ p n z. no_entry p n z;
          derived = λ p n z. no_entry p n z;
          defs = λ p n z. no_entry p n z;
          names = λ p n z. no_entry p n z;
        };
        uncut = λ i l. subst (λ x. is_a_cut x (node_of x (get_or c.roots i no_root).goal.judgment).head ≡ false) C.pack (no_cut c c.roots 0 cut i l);
        target = λ i l.
            let R = C.roots i (subst (λ n. i < n) C.count l) in
            let r = get_or c.roots i no_root in
            let G = good.goals i (subst (λ n. i < n) C.count l) in
            subst (λ x. TermOf P (open_sort P so (is_open c r) r.values) (term_of s (get_or c.built.classes r.class no_class).conclusion) x) G.judgment.predicate
            (matched_term P good (term_of s (get_or c.built.classes r.class no_class).conclusion) (get_or P.goals i no_goal).judgment r.values G.judgment.given R.values (open_sort P so (is_open c r) r.values) (goal-fits so same i l));
        conclusion = λ i l. let R = C.roots i (subst (λ n. i < n) C.count l) in C.conclusions (get_or c.roots i no_root).class R.class;
        grows = H.grows;
        nothing_yet = (refl, refl);
      })))))
