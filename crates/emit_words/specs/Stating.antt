-- The line of a judgment whose arguments have words, and what it answers.
use Rattle.std.specs.Prelude.{Option, Some, None}
use Rattle.std.specs.Prelude.{◌≡◌, refl, List, [], map, ℕ, ◌≤◌, ◌<◌, length, get_or}
use Rattle.std.proofs.Common.{sym, subst, ◌∙◌, arith}
use Rattle.std.proofs.Math.Path.{ap}
use Rattle.std.proofs.Math.Option.{some}
use Rattle.definition.specs.Pack.{Node, no_node, prop}
use Rattle.definition.specs.Frame.{refuse}
use Rattle.definition.specs.Answer.{Lent}
use Rattle.definition.specs.Run.{first_short, outcome}
use Rattle.definition.specs.declared.Refusal.TheVariants.{Short as Refusal-as-Short}
use Rattle.emission.specs.Line.{Judgment, Line, Tally, counting, tally}
use Rattle.emission.specs.State.{Emitter, Setting, Search, ◌>>=◌, write, write_step}
use Rattle.emission.specs.Words.{pattern_of, judgment}
use Rattle.store.specs.Stored.{nodes}
use Rattle.emit_theory.specs.Came.{came}
use Rattle.emit_theory.specs.Outcomes.{ran}
use Rattle.emit_theory.specs.Again.Later.{text_length}
use Rattle.emit_theory.specs.Stores.{sorted_earlier}
use Rattle.emit_theory.specs.Search.Proving.{Has, judgment-applied}
use Rattle.emit_lines.specs.Words.{word_in}
use Rattle.emit_lines.specs.Lines.{PutsLine}
use Rattle.emit_state.specs.Holding.{Buffers, lends, World, tally_of, Ready, Asked, got, Comes, Answers}
use Rattle.emit_state.specs.Turns.{then_got, then_refused}
use Rattle.emit_state.specs.Searches.{now_then, then_outcome}
use Rattle.emit_state.specs.Lines.{with_line, with_more, write-got, write_short, line-fits, line_short, holding_line}
use Rattle.emit_state.specs.declared.places.Places.{Places}
use Rattle.emit_state.specs.declared.standing.Standing.{Standing}
use Rattle.emit_state.specs.declared.standing.Proved.{Proved}
use Rattle.emit_state.specs.declared.standing.Proved.TheVariants.{Line as Proved-as-Line, Fails, Refused}
use Rattle.emit_words.specs.Searches.{then_quiet}
use Rattle.emit_words.specs.Enough.{namings}
use Rattle.emit_words.specs.First.{saying, judgment_is}
use Rattle.emit_words.specs.Spelling.{pattern_is}
use Rattle.emit_words.specs.Putting.{PutsOver}
use Rattle.emit_words.specs.Numbering.{numbered_tally, Numbered}
use Rattle.emit_words.specs.Readying.{Prepared, Readied}

-- a numbered line, in the lengths lent
module _ (S : Setting) (ln : Line) (e : Emitter) (v : Lent) where
  -- it has room
  step-got : text_length S (with_more ln e) ≤ v.text → ran v (write_step S ln) e ≡ got (tally e.undone.lines).steps (with_more ln e)
  unfolding write_step outcome first_short
  step-got h = ap (outcome v) (now_then _ e) ∙ then_got v (write S ln) _ e tt (with_more ln e) (write-got v S ln e h)

  -- it has none
  step_short : v.text < text_length S (with_more ln e) → ran v (write_step S ln) e ≡ refuse (Refusal-as-Short 5)
  unfolding write_step
  step_short h = ap (outcome v) (now_then _ e) ∙ then_refused v (write S ln) _ e (Refusal-as-Short 5) (write_short v S ln e h)

-- a judgment's line, as a search
abbrev pub stating : (Judgment → Line) → ℕ → World → Search ℕ
stating F j w = judgment w.setting j >>= λ said. write_step w.setting (F said)

-- the text was short ahead of it
pub answers_short : (F : Judgment → Line) (b b' : Buffers) (l : Places) (m : Standing) (j : ℕ) (r : Option Standing) → r ≡ None → Readied b b' l m j r → Answers b b' l m j (stating F j) (Refused (Refusal-as-Short 5))
answers_short F b b' l m j r q N = record {
  grown = tt;
  comes = λ w e R H. then_refused w.lent (judgment w.setting j) (λ said. write_step w.setting (F said)) e (Refusal-as-Short 5) ((subst (Readied b b' l m j) q N) w e R H);
}

-- it is put behind the text, and numbered
module _ (F : Judgment → Line) (b : Buffers) (pack work words proof : List ℕ) (l : Places) (m t : Standing) (j : ℕ) (A : Asked b l m j) (x : Option Standing) (is : x ≡ Some t) (N : Readied b (lends pack work words proof) l m j x)
    (proof' : List ℕ) (long : length proof' ≡ length proof) (end : ℕ)
    (O : PutsOver pack work words proof proof' l t j (λ y. y.steps ≡ t.steps) (λ ws. F (record { predicate = (get_or (nodes words t.store) j no_node).head; words = ws })) end)
    (inductions : ℕ) (count : (s : Judgment) → counting (tally_of t) (F s) ≡ numbered_tally t inductions) where
  -- the arguments have words
  readied : (t.store ≡ m.store) × ((w : World) (e : Emitter) → Ready b l m w e → Has w.setting e prop j → Prepared (lends pack work words proof) l t w e j)
  readied = subst (Readied b (lends pack work words proof) l m j) is N

  module _ (w : World) (e : Emitter) (R : Ready b l m w e) (H : Has w.setting e prop j) where
    -- the state then, and what is said in it
    abbrev P : Prepared (lends pack work words proof) l t w e j
    P = readied.1 w e R H

    abbrev said : Judgment
    said = record { predicate = (pattern_of P.state j).head; words = map word_in O.numbers }

    -- the judgment is said so
    says : judgment w.setting j P.state ≡ came [] (some said) P.state
    says =
        let S = w.setting in
        let e₁ = P.state in
        judgment_is S j e₁ (record { earlier = sorted_earlier S.pack e₁.kept.store P.ready.sound.sorted; within = (P.has.stored, tt) }) (judgment-applied S e₁ P.ready.sound j P.has)
        ∙ then_quiet (namings S (pattern_of e₁ j).args) e₁ (map word_in O.numbers) (saying S (pattern_of e₁ j).head) (O.had pack proof w e₁ P.ready P.whole)

    -- what the whole comes to is what the line comes to
    from_there : ran w.lent (stating F j w) e ≡ ran w.lent (write_step w.setting (F said)) P.state
    from_there =
        let f : Judgment → Search ℕ = λ s. write_step w.setting (F s) in
        then_outcome w.lent (judgment w.setting j) (judgment w.setting j) f e P.state P.same
        ∙ ap (outcome w.lent) (then_quiet (judgment w.setting j) P.state said f says)

    -- its line was put
    put-line : PutsLine pack work proof proof' l.hand t.text (λ y. y.steps ≡ t.steps) (F said) end
    put-line = subst (λ (n : Node). PutsLine pack work proof proof' l.hand t.text (λ y. y.steps ≡ t.steps) (F (record { predicate = n.head; words = map word_in O.numbers })) end) (pattern_is pack work words proof l t w P.state P.ready j) O.line

    -- it comes to its line
    comes_line : end ≤ length proof → Comes (lends pack work words proof') l w (ran w.lent (stating F j w) e) (Proved-as-Line (with_line t end (numbered_tally t inductions)) t.steps)
    comes_line h =
        let H₁ = P.ready.holding in
        let Q : Tally → Type 0 = λ y. y.steps ≡ t.steps in
        let k = line-fits (lends pack work words proof) l t w P.state H₁ (F said) proof' long Q refl end put-line h in
        let n : (tally P.state.undone.lines).steps ≡ t.steps = ap (λ (y : Tally). y.steps) H₁.counts in (
          with_more (F said) P.state,
          from_there ∙ step-got w.setting (F said) P.state w.lent (omega (arith, k, H₁.text_lent)) ∙ ap (λ (y : ℕ). got y (with_more (F said) P.state)) n,
          holding_line (lends pack work words proof) l t w P.state H₁ (F said) proof' long Q refl end put-line h (numbered_tally t inductions) (count said),
        )

    -- or the text is short
    comes_short : length proof < end → ran w.lent (stating F j w) e ≡ refuse (Refusal-as-Short 5)
    comes_short h =
        let H₁ = P.ready.holding in
        from_there ∙ step_short w.setting (F said) P.state w.lent (line_short (lends pack work words proof) l t w P.state H₁ (F said) proof' long (λ y. y.steps ≡ t.steps) refl end put-line h)

  -- either way it is what was to be answered
  pub answers_line : (r : Proved) → Numbered t end (length proof') inductions r → Answers b (lends pack work words proof') l m j (stating F j) r
  answers_line (Proved-as-Line u n) (h, q, z) = record {
    grown = omega (arith, ap (λ (y : Standing). y.store.len) z, ap (λ (y : _). y.len) readied.0);
    comes = λ w e R H. subst (λ (y : Standing). Comes (lends pack work words proof') l w (ran w.lent (stating F j w) e) (Proved-as-Line y n)) (sym z)
        (subst (λ (y : ℕ). Comes (lends pack work words proof') l w (ran w.lent (stating F j w) e) (Proved-as-Line (with_line t end (numbered_tally t inductions)) y)) (sym q) (comes_line w e R H (omega (arith, h, long))));
  }
  answers_line (Fails u) h = absurd h
  answers_line (Refused y) (h, z) = record { grown = tt; comes = λ w e R H. comes_short w e R H (omega (arith, h, long)) ∙ ap refuse (sym z) }
