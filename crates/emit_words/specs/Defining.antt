-- A pattern is defined: its line stands behind the text, and its entry in work.
use Rattle.std.specs.Prelude.{Option, Some, None}
use Rattle.std.specs.Prelude.{◌≡◌, refl, List, [], ◌∷◌, map, ℕ, suc, ◌+◌, ◌≤◌, ◌<◌, length, get_or}
use Rattle.std.proofs.Common.{sym, ap, subst, add-one, arith}
use Rattle.std.proofs.Math.Option.{none, some}
use Rattle.definition.specs.Pack.{no_node, Node}
use Rattle.definition.specs.Frame.{refuse}
use Rattle.definition.specs.declared.Refusal.TheVariants.{Short as Refusal-as-Short}
use Rattle.base.specs.Outside.{Outside}
use Rattle.emission.specs.Line.{Word, Line, def_line, Tally, counting, tally}
use Rattle.emission.proofs.Laws.Text.{text_grows}
use Rattle.emission.specs.State.{Emitter, having_def}
use Rattle.emission.specs.Words.{pattern_of, word_of}
use Rattle.store.specs.Stored.{nodes}
use Rattle.emit_theory.specs.Came.{came}
use Rattle.emit_theory.specs.Outcomes.{ran}
use Rattle.emit_theory.specs.Sound.{Grew}
use Rattle.emit_theory.specs.Search.Naming.{Speaks, speaks_stored}
use Rattle.emit_theory.specs.Search.Proving.{supposed_on}
use Rattle.emit_maps.specs.Holds.{Enters}
use Rattle.emit_lines.specs.Words.{word_in}
use Rattle.emit_lines.specs.Lines.{PutsLine}
use Rattle.emit_state.specs.Places.{maps_of, failed_at}
use Rattle.emit_state.specs.Holding.{Buffers, lends, World, tally_of, Holding, Ready}
use Rattle.emit_state.specs.Grown.{store_room}
use Rattle.emit_state.specs.Counts.{definitions_few}
use Rattle.emit_state.specs.Lines.{with_line, with_more, with_trail, text_ends, line-fits, line_short, holding_line, holding_def}
use Rattle.emit_state.specs.declared.places.Places.{Places}
use Rattle.emit_state.specs.declared.standing.Standing.{Standing}
use Rattle.emit_words.specs.Naming.{lacks, with_def}
use Rattle.emit_words.specs.Enough.{namings}
use Rattle.emit_words.specs.Pending.{pending, Waits, grew_def, sound_define, define-room, define_short, define_waits}
use Rattle.emit_words.specs.Spelling.{pattern_is}
use Rattle.emit_words.specs.Putting.{Placed, Whole, PutsOver}

-- p has no word, and its arguments have theirs
pub record Defining (b : Buffers) (l : Places) (m : Standing) (w : World) (e : Emitter) (p : ℕ) : Type 0 where
  pub ready : Ready b l m w e
  pub speaks : Speaks w.setting e p
  pub lacks : word_of e p ≡ none
  pub whole : Whole e p

-- there is such a state
pub record Definable (b : Buffers) (l : Places) (m : Standing) (p : ℕ) : Type 0 where
  pub world : World
  pub state : Emitter
  pub defining : Defining b l m world state p

-- a state later: p has its word, and what was pending below it is pending
pub record DefinedIn (b : Buffers) (l : Places) (m : Standing) (w : World) (e : Emitter) (p : ℕ) : Type 0 where
  pub state : Emitter
  pub ready : Ready b l m w state
  pub grew : Grew e state
  pub waits : (j : ℕ) (ps : List ℕ) → Waits w.setting e (suc p) j ps → Waits w.setting state 0 j ps
  pub same : (j : ℕ) (ps : List ℕ) → ran w.lent (pending w.setting j (p ∷ ps)) e ≡ ran w.lent (pending w.setting j ps) state

-- of numbers and words: the text is longer, the patterns and what stands behind the maps are as they were
pub record DefinedBy (b b' : Buffers) (l : Places) (m t : Standing) : Type 0 where
  pub longer : m.text < t.text
  pub ends : t.text ≤ length b.proof
  pub long : length b'.proof ≡ length b.proof
  pub store : t.store ≡ m.store
  pub outside : Outside l.at (failed_at l) b.work b'.work

-- what `define` answers
abbrev pub Defines : Buffers → Buffers → Places → Standing → ℕ → Option Standing → Type 0
Defines b b' l m p (Some t) = DefinedBy b b' l m t × ((w : World) (e : Emitter) → Defining b l m w e p → DefinedIn b' l t w e p)
Defines b b' l m p None = (w : World) (e : Emitter) → Defining b l m w e p → (j : ℕ) (ps : List ℕ) → ran w.lent (pending w.setting j (p ∷ ps)) e ≡ refuse (Refusal-as-Short 5)

-- one definition more in the counts
abbrev pub one_more_of : Standing → Tally
one_more_of m = record { steps = m.steps; definitions = m.definitions + 1; variables = m.variables; inductions = m.inductions }

-- a def line is counted so
one_more : (m : Standing) (h : ℕ) (ws : List Word) → counting (tally_of m) (def_line h ws) ≡ one_more_of m
unfolding counting
one_more m h ws = ap (λ (d : ℕ). record { steps = m.steps; definitions = d; variables = m.variables; inductions = m.inductions }) (sym (add-one m.definitions))

module _ (pack work words proof : List ℕ) (l : Places) (m : Standing) (p : ℕ) where
  -- the buffers ahead of it
  abbrev before : Buffers
  before = lends pack work words proof

  -- it is an application of the store
  pub definable_placed : Definable before l m p → Placed before l m p
  definable_placed D = record {
    world = D.world;
    state = D.state;
    ready = D.defining.ready;
    there = speaks_stored D.world.setting D.state D.defining.ready.sound p D.defining.speaks;
    applied = (lacks D.state p D.defining.lacks).applied;
  }

  module _ (w : World) (e : Emitter) (D : Defining before l m w e p) where
    -- there is a word for it in a map
    pub definable_low : p < l.room
    definable_low =
        let R = D.ready in
        omega (arith, speaks_stored w.setting e R.sound p D.speaks, store_room before l m w e R.holding)

    -- the number of the next definition is a small one
    pub definable_few : m.definitions ≤ 16777216
    definable_few =
        let H = D.ready.holding in
        omega (arith, definitions_few w.setting.pack w.setting.name e.undone.lines, text_ends before l m w e H, H.ends, H.text_few, ap (λ (t : Tally). t.definitions) H.counts)

    module _ (proof' : List ℕ) (long : length proof' ≡ length proof) (r : ℕ)
        (A : PutsOver pack work words proof proof' l m p (λ t. t.definitions ≡ m.definitions) (λ ws. def_line (get_or (nodes words m.store) p no_node).head ws) r) where
      -- its words, and its line
      abbrev ws : List Word
      ws = map word_in A.numbers

      abbrev ln : Line
      ln = def_line (pattern_of e p).head ws

      -- its arguments' words are these
      said : namings w.setting (pattern_of e p).args e ≡ came [] (some ws) e
      said = A.had pack proof w e D.ready D.whole

      -- its line was put
      put-line : PutsLine pack work proof proof' l.hand m.text (λ t. t.definitions ≡ m.definitions) ln r
      put-line = subst (λ (n : Node). PutsLine pack work proof proof' l.hand m.text (λ t. t.definitions ≡ m.definitions) (def_line n.head ws) r) (pattern_is pack work words proof l m w e D.ready p) A.line

      -- the text is short
      pub defined_short : length proof < r → (j : ℕ) (ps : List ℕ) → ran w.lent (pending w.setting j (p ∷ ps)) e ≡ refuse (Refusal-as-Short 5)
      defined_short h j ps =
          define_short w.setting e D.ready.sound p D.speaks D.lacks ws said w.lent j ps
          (line_short before l m w e D.ready.holding ln proof' long (λ t. t.definitions ≡ m.definitions) refl r put-line h)

      module _ (fits : r ≤ length proof) where
        -- it is longer
        pub defined_longer : m.text < r
        defined_longer =
            let H = D.ready.holding in
            omega (arith, text_grows w.setting.pack w.setting.name e.undone.lines ln, text_ends before l m w e H, line-fits before l m w e H ln proof' long (λ t. t.definitions ≡ m.definitions) refl r put-line fits)

        -- the state that is come to
        pub defined_in : (work' : List ℕ) (trail : ℕ) → Enters work work' (maps_of l) 2 p m.definitions m.trail trail → DefinedIn (lends pack work' words proof') l (with_trail (with_line m r (one_more_of m)) trail) w e p
        defined_in work' trail E =
            let R = D.ready in
            let H = R.holding in
            let S = w.setting in
            let Q : Tally → Type 0 = λ t. t.definitions ≡ m.definitions in
            let c : counting (tally_of m) ln ≡ one_more_of m = one_more m (pattern_of e p).head ws in
            let one = holding_line before l m w e H ln proof' long Q refl r put-line fits (one_more_of m) c in
            let two = holding_def (lends pack work words proof') l (with_line m r (one_more_of m)) w (with_more ln e) one work' p m.definitions trail E definable_low (lacks e p D.lacks).undefined in
            let G = grew_def S e R.sound p D.speaks D.lacks ws said in
            let n : m.definitions ≡ (tally e.undone.lines).definitions = sym (ap (λ (t : Tally). t.definitions) H.counts) in
            let room : length proof' ≡ length proof = long in
            let k = line-fits before l m w e H ln proof' long Q refl r put-line fits in
            record {
              state = with_def p ws e;
              ready = record {
                holding = subst (λ (x : ℕ). Holding (lends pack work' words proof') l (with_trail (with_line m r (one_more_of m)) trail) w (having_def p x (with_more ln e))) n two;
                sound = sound_define S e R.sound p D.speaks D.lacks ws said;
                supposed = supposed_on e (with_def p ws e) G w.hyps R.supposed;
              };
              grew = G;
              waits = λ j ps W. define_waits S e R.sound p D.speaks D.lacks ws said j ps W;
              same = λ j ps. define-room S e R.sound p D.speaks D.lacks ws said w.lent j ps (omega (arith, k, fits, H.text_lent));
            }
