-- A line that has a number, and the counts behind it.
use Rattle.std.specs.Prelude.{◌≡◌, List}
use Rattle.std.proofs.Common.{sym, ◌∙◌, add-one, arith}
use Rattle.std.proofs.Math.Path.{ap}
use Prim.Native.Nat.{ℕ, suc, ◌+◌, ◌≤◌, ◌<◌}
use Rattle.definition.specs.declared.Refusal.TheVariants.{Short as Refusal-as-Short}
use Rattle.emission.specs.Line.{Judgment, Case, hyp_line, step_line_of, induct_line, Tally, counting}
use Rattle.emit_state.specs.Holding.{Buffers, tally_of, most_cells}
use Rattle.emit_state.specs.Counts.{steps_few, inductions_few}
use Rattle.emit_state.specs.Lines.{with_line, text_ends}
use Rattle.emit_state.specs.declared.places.Places.{Places}
use Rattle.emit_state.specs.declared.standing.Standing.{Standing}
use Rattle.emit_state.specs.declared.standing.Proved.{Proved}
use Rattle.emit_state.specs.declared.standing.Proved.TheVariants.{Line as Proved-as-Line, Fails, Refused}
use Rattle.emit_words.specs.Putting.{Placed}

-- one line more that has a number
abbrev pub numbered_tally : Standing → ℕ → Tally
numbered_tally m inductions = record { steps = m.steps + 1; definitions = m.definitions; variables = m.variables; inductions = inductions }

-- it was written, and ends at `end`; or there is no room for it
abbrev pub Numbered : Standing → ℕ → ℕ → ℕ → Proved → Type 0
Numbered m end room inductions (Proved-as-Line t n) = (end ≤ room) × (n ≡ m.steps) × (t ≡ with_line m end (numbered_tally m inductions))
Numbered m end room inductions (Fails t) = ⊥
Numbered m end room inductions (Refused x) = (room < end) × (x ≡ Refusal-as-Short 5)

-- the counts behind each kind of line
module _ (m : Standing) (j : Judgment) where
  -- a step
  pub count-step : (rule : ℕ) (refs : List ℕ) → counting (tally_of m) (step_line_of rule refs j) ≡ numbered_tally m m.inductions
  unfolding counting
  count-step rule refs = ap (λ (n : ℕ). record { steps = n; definitions = m.definitions; variables = m.variables; inductions = m.inductions }) (sym (add-one m.steps))

  -- a hypothesis
  pub count_hyp : counting (tally_of m) (hyp_line j) ≡ numbered_tally m m.inductions
  unfolding counting
  count_hyp = ap (λ (n : ℕ). record { steps = n; definitions = m.definitions; variables = m.variables; inductions = m.inductions }) (sym (add-one m.steps))

  -- an induction
  pub count-induct : (cases : List Case) → counting (tally_of m) (induct_line j cases) ≡ numbered_tally m (m.inductions + 1)
  unfolding counting
  count-induct cases =
      ap (λ (n : ℕ). record { steps = n; definitions = m.definitions; variables = m.variables; inductions = suc m.inductions }) (sym (add-one m.steps))
      ∙ ap (λ (n : ℕ). record { steps = m.steps + 1; definitions = m.definitions; variables = m.variables; inductions = n }) (sym (add-one m.inductions))

-- the counts are small
module _ (b : Buffers) (l : Places) (m : Standing) (j : ℕ) (K : Placed b l m j) where
  -- of steps
  pub placed_steps : m.steps ≤ most_cells
  placed_steps =
      let w = K.world in
      let e = K.state in
      let H = K.ready.holding in
      omega (arith, steps_few w.setting.pack w.setting.name e.undone.lines, text_ends b l m w e H, H.ends, H.text_few, ap (λ (t : Tally). t.steps) H.counts)

  -- of inductions
  pub placed_inductions : m.inductions ≤ most_cells
  placed_inductions =
      let w = K.world in
      let e = K.state in
      let H = K.ready.holding in
      omega (arith, inductions_few w.setting.pack w.setting.name e.undone.lines, text_ends b l m w e H, H.ends, H.text_few, ap (λ (t : Tally). t.inductions) H.counts)
