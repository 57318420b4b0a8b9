-- The buffers after a line more, and after a definition or a case variable's name more.
use Rattle.std.specs.Prelude.{◌≡◌, refl, List, [], ◌∷◌, ◌++◌, ℕ, ◌≤◌, ◌<◌, length}
use Rattle.std.proofs.Common.{sym, ap, subst, ◌∙◌, arith, le-leb}
use Rattle.std.proofs.Math.Bool.{true, false}
use Rattle.std.proofs.Math.Option.{none, some}
use Rattle.std.proofs.lemmas.Bool.{lt-leb}
use Rattle.definition.specs.Verdict.{Bound, value_of}
use Rattle.definition.specs.Frame.{refuse}
use Rattle.definition.specs.Answer.{Lent}
use Rattle.definition.specs.Run.{return, length_of, has_room_for, outcome}
use Rattle.definition.specs.declared.Refusal.TheVariants.{Short}
use Rattle.emission.specs.Line.{Line, Tally, counting, tally}
use Rattle.emission.specs.Render.{line_text, proof_text}
use Rattle.emission.proofs.Laws.Text.{tally-one-more, text_one-more}
use Rattle.emission.specs.State.{Emitter, Setting, write, having_lines, having_def, having_name}
use Rattle.theory.specs.Patterns.Interned.{grows_none}
use Rattle.text_write.specs.Written.{Written, Adds, ends-whole, ends_short}
use Rattle.emit_theory.specs.Outcomes.{outcome-note, outcome_quiet}
use Rattle.emit_theory.specs.Again.Later.{text_length, Later, later_then}
use Rattle.emit_maps.specs.Map.{start, Mapped}
use Rattle.emit_maps.specs.Holds.{Enters, holds_def, holds_name, trailed_new}
use Rattle.emit_lines.specs.Lines.{PutsLine}
use Rattle.emit_state.specs.Places.{maps_of}
use Rattle.emit_state.specs.Holding.{Buffers, lends, World, tally_of, Holding, got}
use Rattle.emit_state.specs.Frame.{having_work}
use Rattle.emit_state.specs.Writes.{having_trail, MapsOf, holding_maps}
use Rattle.emit_state.specs.declared.places.Places.{Places}
use Rattle.emit_state.specs.declared.standing.Standing.{Standing}

-- the text ends elsewhere, and the counts are others
abbrev pub with_line : Standing → ℕ → Tally → Standing
with_line m r t = record { store = m.store; text = r; steps = t.steps; definitions = t.definitions; variables = t.variables; inductions = t.inductions; trail = m.trail; failed = m.failed; hyps = m.hyps }

-- the trail has other entries
abbrev pub with_trail : Standing → ℕ → Standing
with_trail m r = having_trail r m.failed m

-- one line more
abbrev pub with_more : Line → Emitter → Emitter
with_more ln e = having_lines (e.undone.lines ++ (ln ∷ [])) e

-- ---- a line's write in the lengths lent
module _ (lent : Lent) (S : Setting) (ln : Line) (e : Emitter) where
  -- how long the text is with the line
  abbrev long_with : ℕ
  long_with = text_length S (with_more ln e)

  -- it has room
  pub write-got : long_with ≤ lent.text → outcome lent (write S ln e) ≡ got tt (with_more ln e)
  unfolding write length_of has_room_for
  write-got h =
      let t : has_room_for lent (record { buffer = 5; fill = long_with }) ≡ true = rw (le-leb long_with lent.text h, has_room_for) in
      outcome-note lent 5 long_with (return (record { result = some tt; state = with_more ln e })) ∙ rw t (outcome_quiet lent (record { result = some tt; state = with_more ln e }))

  -- it has none
  pub write_short : lent.text < long_with → outcome lent (write S ln e) ≡ refuse (Short 5)
  unfolding write length_of has_room_for
  write_short h =
      let t : has_room_for lent (record { buffer = 5; fill = long_with }) ≡ false = rw (lt-leb long_with lent.text h, has_room_for) in
      outcome-note lent 5 long_with (return (record { result = some tt; state = with_more ln e })) ∙ rw t

module _ (b : Buffers) (l : Places) (m : Standing) (w : World) (e : Emitter) (H : Holding b l m w e) where
  -- the text's length is where it ends
  pub text_ends : text_length w.setting e ≡ m.text
  text_ends = sym (ends-whole b.proof m.text (proof_text w.setting.pack w.setting.name e.undone.lines) (omega (arith, H.text_few)) H.written H.ends).0

  -- a line is added by its writer
  module _ (ln : Line) (proof' : List ℕ) (long : length proof' ≡ length b.proof) (Q : Tally → Type 0) (is : Q (tally_of m)) (r : ℕ)
      (A : PutsLine b.pack b.work b.proof proof' l.hand m.text Q ln r) where
    -- its text is added
    adds-line : Adds b.proof proof' m.text (line_text w.setting.pack w.setting.name (tally e.undone.lines) ln) r
    adds-line = subst (λ (L : List ℕ). Adds b.proof proof' m.text (line_text w.setting.pack L (tally e.undone.lines) ln) r) (sym H.named) (A w.setting.pack H.reads (tally e.undone.lines) (subst Q (sym H.counts) is))

    -- the text with the line
    line-written : Written proof' r (proof_text w.setting.pack w.setting.name (e.undone.lines ++ (ln ∷ [])))
    line-written = subst (Written proof' r) (sym (text_one-more w.setting.pack w.setting.name e.undone.lines ln)) (adds-line.written (proof_text w.setting.pack w.setting.name e.undone.lines) H.written)

    -- it has room if the text ends in the buffer
    pub line-fits : r ≤ length b.proof → text_length w.setting (with_more ln e) ≡ r
    line-fits h = sym (ends-whole proof' r (proof_text w.setting.pack w.setting.name (e.undone.lines ++ (ln ∷ []))) (omega (arith, long, H.text_few)) line-written (omega (arith, long))).0

    -- else it has none
    pub line_short : length b.proof < r → w.lent.text < text_length w.setting (with_more ln e)
    line_short h = let z = ends_short proof' r (proof_text w.setting.pack w.setting.name (e.undone.lines ++ (ln ∷ []))) line-written (omega (arith, long)) in omega (arith, long, H.text_lent)

    -- the buffers hold the state with the line
    pub holding_line : r ≤ length b.proof → (t : Tally) → counting (tally_of m) ln ≡ t → Holding (lends b.pack b.work b.pattern proof') l (with_line m r t) w (with_more ln e)
    holding_line h t c = record {
      pattern_lent = H.pattern_lent;
      text_lent = H.text_lent ∙ sym long;
      pattern_few = H.pattern_few;
      text_few = omega (arith, long, H.text_few);
      room_is = H.room_is;
      laid = H.laid;
      beyond = H.beyond;
      cataloged = H.cataloged;
      reads = H.reads;
      proper = H.proper;
      named = H.named;
      stored = H.stored;
      nodes_are = H.nodes_are;
      written = line-written;
      ends = omega (arith, long);
      counts = tally-one-more e.undone.lines ln ∙ ap (λ (x : Tally). counting x ln) H.counts ∙ c;
      maps = H.maps;
      counted = H.counted;
      since = H.since;
      supposed = H.supposed;
      remembers = H.remembers;
      barren = λ j k z d f e' L. H.barren j k z d f e' (later_then e (with_more ln e) e' (record { proved = refl; grows = grows_none e.kept.store }) L);
      replaced = H.replaced;
      rules = H.rules;
      constructors = H.constructors;
    }

  module _ (work' : List ℕ) (p n r : ℕ) where
    -- an entry for a pattern that had none: the lines, the proved judgments and the patterns are as they were
    holding_entered : (k : ℕ) → k < 4 → Enters b.work work' (maps_of l) k p n m.trail r → p < l.room → (bs : List Bound) → Mapped b.work (start (maps_of l) k) l.room bs → value_of p bs ≡ none
        → (e' : Emitter) → e'.undone.lines ≡ e.undone.lines → Later e e' → e'.kept.store ≡ e.kept.store → MapsOf work' l w e' → Holding (having_work work' b) l (with_trail m r) w e'
    holding_entered k few E low bs M new e' lines later store maps =
        holding_maps b l m w e H work' r e' E.outside lines store maps E.counted
        (E.trailed w.before w.from H.since (trailed_new w.before b.work (maps_of l) w.from m.trail H.since k p few low bs M new))
        (λ j d z c f e'' K. H.barren j d z c f e'' (later_then e e' e'' later K))

    -- a pattern that has no definition gets one
    pub holding_def : Enters b.work work' (maps_of l) 2 p n m.trail r → p < l.room → value_of p e.undone.defs ≡ none → Holding (having_work work' b) l (with_trail m r) w (having_def p n e)
    holding_def E low new =
        holding_entered 2 (omega arith) E low e.undone.defs H.maps.defs new (having_def p n e) refl (record { proved = refl; grows = grows_none e.kept.store }) refl
        (holds_def b.work work' (maps_of l) _ _ _ _ _ H.maps p n m.trail r E)

    -- one that has no name gets one
    pub holding_name : Enters b.work work' (maps_of l) 3 p n m.trail r → p < l.room → value_of p e.undone.names ≡ none → Holding (having_work work' b) l (with_trail m r) w (having_name p n e)
    holding_name E low new =
        holding_entered 3 (omega arith) E low e.undone.names H.maps.names new (having_name p n e) refl (record { proved = refl; grows = grows_none e.kept.store }) refl
        (holds_name b.work work' (maps_of l) _ _ _ _ _ H.maps p n m.trail r E)
