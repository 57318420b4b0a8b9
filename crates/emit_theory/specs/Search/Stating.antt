-- A judgment in a line: what a hyp, step or induct line states is the pattern that it was written for.
use Rattle.std.specs.Prelude.{◌≡◌, false, List, [], ◌∷◌, ◌++◌, length, get_or}
use Rattle.std.proofs.Math.Path.{refl, sym, ap, subst}
use Rattle.std.proofs.Common.{◌∙◌, arith, length-append}
use Prim.Native.Nat.{ℕ, suc, ◌<◌}
use Rattle.std.proofs.lemmas.List.{get_or_at}
use Rattle.definition.specs.Pack.{app, no_node}
use Rattle.definition.specs.Good.{Below}
use Rattle.definition.specs.Store.{is_variable, term_of}
use Rattle.definition.proofs.Laws.Grow.{below_more}
use Rattle.emission.specs.Line.{Judgment, Line, step_line_of, tally}
use Rattle.emission.specs.State.{Emitter, Setting, give, write, write_step, having_lines}
use Rattle.emission.specs.Words.{words, judgment, step}
use Rattle.theory.specs.Copies.Terms.{below-applied, term_applied}
use Rattle.theory.specs.Patterns.Interned.{with, grows_long, grows_at}
use Rattle.emit_theory.specs.Stores.{sorted_earlier}
use Rattle.emit_theory.specs.Said.{judgment_term, definitions, stating, stated, no_judgment, WordsBelow, stated-behind, definitions-grow, count-stated, words_same, words_more}
use Rattle.emit_theory.specs.Sound.{Told, Sound, term_grows}
use Rattle.emit_theory.specs.Comes.{Comes, gives, then_comes, now_comes}
use Rattle.emit_theory.specs.Writes.{write_comes}
use Rattle.emit_theory.specs.Search.Naming.{WordsAre, Speaks, speaks_stored, speaks_args, terms_same, words_comes}

-- a line that states a judgment gets the next number
one_more : (ls : List Line) (l : Line) (j : Judgment) → stating l ≡ j ∷ [] → get_or (stated (ls ++ (l ∷ []))) (tally ls).steps no_judgment ≡ j
unfolding stated
one_more ls l j q = ap (λ js. get_or js (tally ls).steps no_judgment) (stated-behind ls (l ∷ []) ∙ ap (λ x. stated ls ++ (x ++ [])) q) ∙ get_or_at (stated ls) j [] no_judgment (tally ls).steps (count-stated ls)

one-longer : (ls : List Line) (l : Line) (j : Judgment) → stating l ≡ j ∷ [] → (tally ls).steps < length (stated (ls ++ (l ∷ [])))
unfolding stated
one-longer ls l j q =
    let k = ap length (stated-behind ls (l ∷ []) ∙ ap (λ x. stated ls ++ (x ++ [])) q) ∙ length-append (stated ls) (j ∷ []) in
    let c = count-stated ls in
    omega arith

-- the judgment of a line is a pattern, in a state
pub record JudgmentIs (p : ℕ) (j : Judgment) (e : Emitter) : Type 0 where
  pub below : WordsBelow (length (definitions e.undone.lines)) j.words
  pub says : judgment_term (definitions e.undone.lines) j ≡ term_of e.kept.store p

module _ (S : Setting) where
  -- a judgment's words
  pub judgment_comes : (p : ℕ) (e : Emitter) → Sound S e → Speaks S e p → is_variable (get_or e.kept.store p no_node) ≡ false → Comes S (JudgmentIs p) (judgment S p) e
  unfolding judgment judgment_term
  judgment_comes p e s h v =
      let x = e.kept.store in
      let l = speaks_stored S e s p h in
      let E = sorted_earlier S.pack x s.sorted in
      let args = (get_or x p no_node).args in
      now_comes S (JudgmentIs p) _ e s (then_comes S (WordsAre args) (JudgmentIs p) (words (suc p) S args) _ e
      (words_comes S (suc p) args e s (speaks_args S e s p h v) (below_more p (suc p) args (omega arith) (subst (Below p) (below-applied (get_or x p no_node) v) (E p l))))
      (λ ws e₁ g t W.
      let same = grows_at x e₁.kept.store no_node p g.store l in
      gives S (JudgmentIs p) (record { predicate = (get_or x p no_node).head; words = ws }) e₁ t (record {
        below = W.below;
        says =
            ap (app (get_or x p no_node).head) W.says ∙ ap (app (get_or x p no_node).head) (terms_same x e₁.kept.store g.store args (below_more p (length x) args (omega arith) (subst (Below p) (below-applied (get_or x p no_node) v) (E p l))))
            ∙ sym (term_applied x E p l v) ∙ sym (term_grows x e₁.kept.store g.store p l);
      })))

  -- a hyp, step or induct line of a judgment's words
  pub write-step_comes : (l : Line) (j : Judgment) (p : ℕ) (e : Emitter) → Sound S e → p < length e.kept.store → stating l ≡ j ∷ [] → JudgmentIs p j e
      → Comes S (λ n e₁. Told e₁.undone.lines e₁.kept.store p n) (write_step S l) e
  unfolding write_step judgment_term
  write-step_comes l j p e s k q J =
      let ls = e.undone.lines in
      let ms = ls ++ (l ∷ []) in
      let D = definitions-grow ls ms (with (l ∷ []) refl) in
      let d = grows_long (definitions ls) (definitions ms) D in
      let is-j = one_more ls l j q in
      let T : Told ms e.kept.store p (tally ls).steps = record {
        there = one-longer ls l j q;
        stored = k;
        words = rw is-j (words_more (length (definitions ls)) (length (definitions ms)) d j.words J.below);
        says = rw is-j (ap (app j.predicate) (words_same (definitions ls) (definitions ms) D j.words J.below) ∙ J.says);
      } in
      let Q : ℕ → Emitter → Type 0 = λ n e₁. Told e₁.undone.lines e₁.kept.store p n in
      now_comes S Q _ e s (then_comes S _ Q (write S l) _ e (write_comes S e s l) (λ _ e₁ g t r. subst (λ y. Comes S Q (give (tally ls).steps) y) (sym r) (gives S Q (tally ls).steps (having_lines ms e) (subst (Sound S) r t) T)))

  -- a step's line, which states its judgment
  pub step_comes : (rule : ℕ) (refs : List ℕ) (p : ℕ) (e : Emitter) → Sound S e → Speaks S e p → is_variable (get_or e.kept.store p no_node) ≡ false
      → Comes S (λ n e₁. Told e₁.undone.lines e₁.kept.store p n) (step S rule refs p) e
  unfolding step stating
  step_comes rule refs p e s h v =
      let l = speaks_stored S e s p h in
      then_comes S (JudgmentIs p) _ (judgment S p) _ e (judgment_comes p e s h v) (λ j e₁ g t J. let k = grows_long e.kept.store e₁.kept.store g.store in write-step_comes (step_line_of rule refs j) j p e₁ t (omega arith) refl J)
