-- The next case variable's line and name.
use Rattle.std.specs.Prelude.{Ok, Err}
use Rattle.std.specs.Prelude.{◌≡◌, List, [], ◌∷◌, ◌++◌, ℕ, suc, ◌+◌, ◌≤◌, ◌<◌, length}
use Rattle.std.proofs.Math.Path.{refl, ap}
use Rattle.std.proofs.Common.{sym, subst, ◌∙◌, add-one, arith}
use Rattle.definition.specs.Store.{nothing}
use Rattle.definition.specs.Frame.{refuse}
use Rattle.definition.specs.Answer.{Lent}
use Rattle.definition.specs.Run.{outcome, first_short}
use Rattle.definition.specs.declared.Refusal.TheVariants.{Short}
use Rattle.pack_read.specs.Says.{Readable}
use Rattle.emission.specs.Line.{var_line, Tally, counting, tally}
use Rattle.emission.specs.Render.{proof_text}
use Rattle.emission.specs.State.{Emitter, Setting, change, write, having_name}
use Rattle.emit_theory.specs.Search.Cases.{next_unnamed}
use Rattle.emit_maps.specs.Map.{Laid as MapsLaid}
use Rattle.emit_maps.specs.Trail.{Counted}
use Rattle.emit_maps.specs.Holds.{Enters}
use Rattle.emit_lines.specs.Lines.{PutsLine}
use Rattle.emit_state.specs.Places.{maps_of}
use Rattle.emit_state.specs.Holding.{Buffers, lends, World, tally_of, Holding, got}
use Rattle.emit_state.specs.Writes.{maps_laid}
use Rattle.emit_state.specs.Grown.{store_room}
use Rattle.emit_state.specs.Turns.{then_got, then_refused}
use Rattle.emit_state.specs.Searches.{now_then}
use Rattle.emit_state.specs.Counts.{variables_few}
use Rattle.emit_state.specs.Lines.{with_line, with_trail, with_more, write-got, write_short, text_ends, line-fits, line_short, holding_line, holding_name}
use Rattle.emit_state.specs.declared.places.Places.{Places}
use Rattle.emit_state.specs.declared.standing.Standing.{Standing}
use Rattle.emit_case.specs.Asked.{AskedFor}
use Rattle.emit_case.specs.Variables.{name_run, Unnamed, Makes}

-- the state with line and name
abbrev pub with_name : ℕ → ℕ → Emitter → Emitter
with_name v sort e = having_name v (tally e.undone.lines).variables (with_more (var_line sort) e)

-- ---- on plain values
module _ (lent : Lent) (S : Setting) (v sort : ℕ) (e : Emitter) where
  -- how long the text is with the line
  abbrev longer : ℕ
  longer = length (proof_text S.pack S.name (e.undone.lines ++ (var_line sort ∷ [])))

  -- the line has room
  pub name-got : longer ≤ lent.text → outcome lent (name_run S v sort e) ≡ got v (with_name v sort e)
  unfolding name_run outcome first_short
  name-got h =
      ap (outcome lent) (now_then _ e)
      ∙ then_got lent (write S (var_line sort)) _ e tt (with_more (var_line sort) e) (write-got lent S (var_line sort) e h)
      ∙ then_got lent (change (having_name v (tally e.undone.lines).variables)) _ (with_more (var_line sort) e) tt (with_name v sort e) refl

  -- it has none
  pub name_short : lent.text < longer → outcome lent (name_run S v sort e) ≡ refuse (Short 5)
  unfolding name_run
  name_short h = ap (outcome lent) (now_then _ e) ∙ then_refused lent (write S (var_line sort)) _ e (Short 5) (write_short lent S (var_line sort) e h)

-- one variable more in the counts
abbrev pub one_variable : Standing → Tally
one_variable m = record { steps = m.steps; definitions = m.definitions; variables = m.variables + 1; inductions = m.inductions }

-- a var line is counted so
one_more : (m : Standing) (sort : ℕ) → counting (tally_of m) (var_line sort) ≡ one_variable m
unfolding counting
one_more m sort = ap (λ (n : ℕ). record { steps = m.steps; definitions = m.definitions; variables = n; inductions = m.inductions }) (sym (add-one m.variables))

-- ---- in a state that the buffers hold
module _ (b : Buffers) (l : Places) (m : Standing) (w : World) (e : Emitter) (H : Holding b l m w e) where
  -- the count of variables is the lines'
  pub variables_are : (tally e.undone.lines).variables ≡ m.variables
  variables_are = ap (λ (t : Tally). t.variables) H.counts

  -- it is a small number
  pub variables_small : m.variables ≤ 16777216
  variables_small = omega (arith, variables_few w.setting.pack w.setting.name e.undone.lines, text_ends b l m w e H, H.ends, H.text_few, variables_are)

  -- the pack can be read
  abbrev pub pack_readable : Readable b.pack b.work l.hand.catalog
  pack_readable = record { cataloged = H.cataloged; pack = w.setting.pack; reads = H.reads }

module _ (b : Buffers) (l : Places) (m : Standing) (Q : World → Emitter → Type 0) (A : AskedFor b l m Q) where
  -- what is asked says that the count is small
  pub asked_small : m.variables ≤ 16777216
  asked_small = variables_small b l m A.world A.state A.ready.holding

  -- the pack can be read
  pub asked-readable : Readable b.pack b.work l.hand.catalog
  asked-readable = pack_readable b l m A.world A.state A.ready.holding

-- a name can be entered
pub enter_asked : (b : Buffers) (l : Places) (m : Standing) (v sort : ℕ) → AskedFor b l m (Unnamed v sort) → MapsLaid b.work (maps_of l) × (3 < 4) × (v < l.room) × (m.variables < nothing) × Counted b.work (maps_of l) m.trail
enter_asked b l m v sort A =
    let H = A.ready.holding in
    (maps_laid b.work l H.laid, omega arith, omega (arith, A.holds.stored, store_room b l m A.world A.state H), omega (arith, asked_small b l m (Unnamed v sort) A), H.counted)

-- the line was put
module _ (pack work words proof : List ℕ) (l : Places) (m : Standing) (v sort : ℕ) (proof' : List ℕ) (long : length proof' ≡ length proof) (r : ℕ)
    (A : PutsLine pack work proof proof' l.hand m.text (λ t. suc t.variables ≡ m.variables + 1) (var_line sort) r) where
  -- the buffers ahead of it
  abbrev ahead : Buffers
  ahead = lends pack work words proof

  -- the number that it has
  next : suc m.variables ≡ m.variables + 1
  next = omega arith

  -- it had no room
  pub names_short : length proof < r → (b' : Buffers) → Makes ahead b' l m (Unnamed v sort) (λ w. name_run w.setting v sort) (Err (Short 5))
  names_short h b' = record {
    grown = tt;
    comes = λ w e R U. name_short w.lent w.setting v sort e (line_short ahead l m w e R.holding (var_line sort) proof' long (λ t. suc t.variables ≡ m.variables + 1) next r A h);
  }

  -- it had room, and the name was entered
  pub names_made : r ≤ length proof → (work' : List ℕ) (trail : ℕ) → Enters work work' (maps_of l) 3 v m.variables m.trail trail
      → Makes ahead (lends pack work' words proof') l m (Unnamed v sort) (λ w. name_run w.setting v sort) (Ok ((with_trail (with_line m r (one_variable m)) trail), v))
  names_made h work' trail E = record {
    grown = omega arith;
    comes = λ w e R U.
        let H = R.holding in
        let Q : Tally → Type 0 = λ t. suc t.variables ≡ m.variables + 1 in
        let k = line-fits ahead l m w e H (var_line sort) proof' long Q next r A h in
        let one = holding_line ahead l m w e H (var_line sort) proof' long Q next r A h (one_variable m) (one_more m sort) in
        let low : v < l.room = omega (arith, U.stored, store_room ahead l m w e H) in
        let two = holding_name (lends pack work words proof') l (with_line m r (one_variable m)) w (with_more (var_line sort) e) one work' v m.variables trail E low (next_unnamed w.setting e R.sound v sort U.node) in (
          with_name v sort e,
          name-got w.lent w.setting v sort e (omega (arith, k, h, H.text_lent)),
          subst (λ (n : ℕ). Holding (lends pack work' words proof') l (with_trail (with_line m r (one_variable m)) trail) w (having_name v n (with_more (var_line sort) e))) (sym (variables_are ahead l m w e H)) two,
        );
  }
