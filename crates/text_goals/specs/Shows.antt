-- What the goals as shown come to, whole.
use Rattle.std.specs.Prelude.{Result, Ok, Err}
use Rattle.std.specs.Prelude.{◌≡◌, List, ℕ, ◌≤◌, ◌<◌, length, take}
use Rattle.std.proofs.Common.{sym, ap, ◌∙◌, arith}
use Rattle.definition.specs.Pack.{Pack}
use Rattle.definition.specs.Frame.{fine, refuse}
use Rattle.definition.specs.Answer.{Lent}
use Rattle.definition.specs.Store.{pattern_words}
use Rattle.definition.specs.Classes.{Built, class_words}
use Rattle.definition.specs.Figures.{figures}
use Rattle.definition.specs.Run.{outcome, length_of}
use Rattle.definition.specs.Goals.{Root}
use Rattle.definition.specs.Shown.{shown_text}
use Rattle.definition.specs.Calls.{Classed, class_run, show_run}
use Rattle.definition.specs.declared.Figures.{Figures}
use Rattle.definition.specs.declared.Refusal.{Refusal}
use Rattle.definition.specs.declared.Refusal.TheVariants as refusals
use Rattle.pack_tables.specs.declared.catalog.Catalog.{Catalog}
use Rattle.pack_read.specs.Held.{OfHeld}
use Rattle.theory.specs.Making.Runs.{outcome_fine, outcome_refuse, outcome-note, outcome_short, outcome-return-end}
use Rattle.class_keys.specs.declared.classes.Counts.{Counts}
use Rattle.class_rule.specs.Done.{Lends}
use Rattle.class_premises.specs.declared.building.Building.{Building}
use Rattle.class_premises.specs.declared.building.Counted.{Counted}
use Rattle.class_premises.specs.Buffers.{lent}
use Rattle.class_build.specs.LeftWords.{class_words_law, class_fits, pattern_words_law, pattern_fits}
use Rattle.class_build.specs.Build.{BuildsClasses, MadeAll, run-unbuilt, run_untested, run-done}
use Rattle.text_goals.specs.Ends.{Refusing, unmet, short, EndsShown}
use Rattle.text_goals.specs.declared.goal.Budgets.{Budgets}

-- the lengths lent of the buffers that the run writes
pub record LendsText (L : Lent) (class words cells text : List ℕ) : Type 0 where
  pub lends : Lends L class words cells
  pub text_long : L.text ≡ length text

-- the definition's run is done, and these are its words, text and figures
pub record Answered (class words cells text class' words' text' : List ℕ) (b : Budgets) (n m k : ℕ) (f : Figures) (P : Pack) : Type 0 where
  pub built : Built
  pub roots : List Root
  pub is : (L : Lent) → LendsText L class words cells text → outcome L (show_run b.form b.value P) ≡ fine (record { classed = record { pack = P; built = built; roots = roots }; text = shown_text P built b.form b.value roots })
  pub classes : take n class' ≡ class_words P built
  pub classes_fit : n ≤ length class'
  pub patterns : take m words' ≡ pattern_words built.store
  pub patterns_fit : m ≤ length words'
  pub bytes : take k text' ≡ shown_text P built b.form b.value roots
  pub bytes_fit : k ≤ length text'
  pub long : k ≡ length (shown_text P built b.form b.value roots)
  pub counted : f ≡ figures P built

-- what `show` answers of the pack that is held
abbrev pub Shows : (bytes work class words cells text class' words' text' : List ℕ) → Catalog → Budgets → Result (ℕ × ℕ × ℕ × Figures) Refusal → Type 0
Shows bytes work class words cells text class' words' text' c b (Ok (n, m, k, f)) = OfHeld bytes work c (Answered class words cells text class' words' text' b n m k f)
Shows bytes work class words cells text class' words' text' c b (Err x) = OfHeld bytes work c (λ P. (L : Lent) → LendsText L class words cells text → outcome L (show_run b.form b.value P) ≡ refuse x)

-- ---- the definition's run, part by part
module _ (L : Lent) (b : Budgets) (P : Pack) where
  -- what class building refuses
  run-refused : (x : Refusal) → outcome L (class_run P) ≡ refuse x → outcome L (show_run b.form b.value P) ≡ refuse x
  unfolding show_run
  run-refused x e = outcome_refuse L (class_run P) _ x e

  module _ (c : Classed) (e : outcome L (class_run P) ≡ fine c) where
    -- the text has room
    run_shown : length (shown_text P c.built b.form b.value c.roots) ≤ L.text
        → outcome L (show_run b.form b.value P) ≡ fine (record { classed = c; text = shown_text P c.built b.form b.value c.roots })
    unfolding show_run length_of
    run_shown h = outcome_fine L (class_run P) _ c e ∙ outcome-note L 5 (length (shown_text P c.built b.form b.value c.roots)) _ h ∙ outcome-return-end L _

    -- it has none
    run_short : L.text < length (shown_text P c.built b.form b.value c.roots) → outcome L (show_run b.form b.value P) ≡ refuse (refusals.Short 5)
    unfolding show_run length_of
    run_short h = outcome_fine L (class_run P) _ c e ∙ outcome_short L 5 (length (shown_text P c.built b.form b.value c.roots)) _ h

module _ (bytes work class words cells text : List ℕ) (c : Catalog) (b : Budgets) where
  -- no class is made
  pub shows_unbuilt : (work' class' words' cells' text' : List ℕ) (x : Refusal) → BuildsClasses bytes work class words cells work' class' words' cells' c (Err x) → Shows bytes work class words cells text class' words' text' c b (Err x)
  shows_unbuilt work' class' words' cells' text' x M = λ P R Q L l. run-refused L b P x (run-unbuilt L P x (M P R Q L l.lends))

  -- all are
  module _ (work' class' words' cells' text' : List ℕ) (s : Building) (r : Counts) (sums : Counted) (M : BuildsClasses bytes work class words cells work' class' words' cells' c (Ok (s, r, sums))) where
    by_refusal : (P : Pack) (D : MadeAll bytes class words cells work' class' words' cells' s r sums P) (y : Refusal) → Refusing P D.built b text y
        → (L : Lent) → LendsText L class words cells text → outcome L (show_run b.form b.value P) ≡ refuse y
    by_refusal P D y (unmet u) L l = run-refused L b P y (run_untested L P D.built (D.is L l.lends) y (u L))
    by_refusal P D y (short rs u h e) L l =
        run_short L b P (record { pack = P; built = D.built; roots = rs }) (run-done L P D.built (D.is L l.lends) rs (u L)) (omega (arith, h, l.text_long)) ∙ ap refuse (sym e)

    pub shows_ended : (a : Result (ℕ × ℕ × ℕ × Figures) Refusal) → EndsShown (lent bytes class' words' cells' work') text text' s r sums b a → length text' ≡ length text → Shows bytes work class words cells text class' words' text' c b a
    shows_ended (Ok (n, m, k, f)) N same = λ P R Q.
        let D = M.1 P R Q in
        let W = D.ended.standing in
        let G = N.3 P D.built D.ended in
        record {
          built = D.built;
          roots = G.roots;
          is = λ L l.
              run_shown L b P (record { pack = P; built = D.built; roots = G.roots }) (run-done L P D.built (D.is L l.lends) G.roots (G.are L)) (omega (arith, N.2, G.long, l.text_long, same));
          classes = rw N.0 (class_words_law bytes work' class' words' cells' s.catalog s.keying s.layout r s.store D.ended.memo s.fill P D.built W);
          classes_fit = omega (arith, N.0, class_fits bytes work' class' words' cells' s.catalog s.keying s.layout r s.store D.ended.memo s.fill P D.built W);
          patterns = rw N.1 (pattern_words_law bytes work' class' words' cells' s.catalog s.keying s.layout r s.store D.ended.memo s.fill P D.built W);
          patterns_fit = omega (arith, N.1, pattern_fits bytes work' class' words' cells' s.catalog s.keying s.layout r s.store D.ended.memo s.fill P D.built W);
          bytes = G.bytes;
          bytes_fit = N.2;
          long = G.long;
          counted = G.counted;
        }
    shows_ended (Err y) N same = λ P R Q L l. let D = M.1 P R Q in by_refusal P D y (N P D.built D.ended) L l
