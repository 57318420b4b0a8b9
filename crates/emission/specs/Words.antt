-- From `term`, `judgment`, `step`: patterns as words of lines, with a def line ahead for each compound term that has none.
use Rattle.std.specs.Prelude.{true, false, List, [], ◌∷◌, ℕ, zero, suc, get_or}
use Rattle.std.proofs.Math.Option.{Option, none, some}
use Rattle.definition.specs.Pack.{Node, no_node}
use Rattle.definition.specs.Verdict.{value_of}
use Rattle.definition.specs.Store.{is_variable}
use Rattle.definition.specs.Run.{Run}
use Rattle.emission.specs.Line.{Word, constant, defined, variable, Judgment, def_line, step_line_of, tally}
use Rattle.emission.specs.State.{Emitter, Setting, Tried, ◌>>=◌, give, now, change, write, write_step, having_def}

abbrev pub pattern_of : Emitter → ℕ → Node
pattern_of e p = get_or e.kept.store p no_node

-- the word that a pattern has already: a case variable's, asked for first; L's; a constant's; its definition's
unfoldable pub word_of : Emitter → ℕ → Option Word
unfolding value_of is_variable
word_of e p =
    elim (value_of p e.undone.names) [
      | some k ↦ some (variable (suc k))
      | none ↦
          elim (is_variable (pattern_of e p)) [
            | true ↦ some (variable 0)
            | false ↦
                elim (pattern_of e p).args [
                  | [] ↦ some (constant (pattern_of e p).head)
                  | a ∷ more ↦ elim (value_of p e.undone.defs) [ none ↦ none | some n ↦ some (defined n) ]
                ]
          ]
    ]

-- a compound term over its arguments' words gets its line and its word
unfoldable pub define : Setting → ℕ → List Word → Emitter → Run (Tried Word)
unfolding write tally
define S p words = do
  e ← now
  let n = (tally e.undone.lines).definitions
  _ ← write S (def_line (pattern_of e p).head words)
  _ ← change (having_def p n)
  give (defined n)

unfoldable pub word : Setting → (List ℕ → Emitter → Run (Tried (List Word))) → ℕ → Emitter → Run (Tried Word)
unfolding word_of define
word S deeper p = do
  e ← now
  elim (word_of e p) [
    | some w ↦ give w
    | none ↦ deeper (pattern_of e p).args >>= λ ws. define S p ws
  ]

-- terms from left to right, at most d deep
unfoldable pub words : ℕ → Setting → List ℕ → Emitter → Run (Tried (List Word))
unfolding word
words zero S [] = give []
words zero S (p ∷ ps) = give []
words (suc d) S [] = give []
words (suc d) S (p ∷ ps) = do
  w ← word S (λ qs. words d S qs) p
  ws ← words (suc d) S ps
  give (w ∷ ws)

-- a pattern's parts stand before it, so none is deeper than its own number
unfoldable pub judgment : Setting → ℕ → Emitter → Run (Tried Judgment)
unfolding words
judgment S j = do
  e ← now
  ws ← words (suc j) S (pattern_of e j).args
  give (record { predicate = (pattern_of e j).head; words = ws })

-- a judgment's step line behind its definitions, and its number
unfoldable pub step : Setting → ℕ → List ℕ → ℕ → Emitter → Run (Tried ℕ)
unfolding judgment write_step
step S rule refs j = do
  said ← judgment S j
  write_step S (step_line_of rule refs said)
