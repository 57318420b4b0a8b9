-- What `cert_emit` answers, for every pack and all lengths: returned numbers and every cell lent; and what certgen writes.
use Rattle.std.specs.Prelude.{true, false, List, [], ◌++◌, ℕ, ltb, length}
use Rattle.std.proofs.Math.Option.{none, some}
use Rattle.definition.specs.Decimal.{decimal}
use Rattle.definition.specs.Store.{pattern_words}
use Rattle.definition.specs.Classes.{class_words}
use Rattle.definition.specs.Figures.{figures}
use Rattle.definition.specs.Frame.{fine, refuse}
use Rattle.definition.specs.Answer.{answer, Lent, padded}
use Rattle.definition.specs.Calls.{called, no_figures}
use Rattle.definition.specs.Ascii.{bytes}
use Rattle.definition.specs.declared.Refusal.{Refusal}
use Rattle.definition.specs.declared.Answer.{Answer}
use Rattle.definition.specs.declared.Figures.{Figures}
use Rattle.emission.specs.Begin.{Emission}
use Rattle.emission.specs.Emit.{emit_run, proof_of, goals_of, emitted_of}
use Rattle.emission.specs.declared.Emitted.{Emitted}

-- a refusal returns no counts
abbrev pub no_emitted : Emitted
no_emitted = record { open_goals = 0; rigid_goals = 0; steps = 0; inductions = 0; definitions = 0 }

-- what emit returns and leaves in its buffers
pub record EmitLeft : Type 0 where
  pub returned : Answer
  pub proof_length : ℕ
  pub goals_length : ℕ
  pub emitted : Emitted
  pub figures : Figures
  pub class : List ℕ
  pub pattern : List ℕ
  pub graph : List ℕ
  pub work : List ℕ
  pub proof : List ℕ
  pub goals : List ℕ

-- a refusal "leaves zeros"
unfoldable pub emit_refused : Lent → Refusal → EmitLeft
unfolding answer padded
emit_refused l r = record {
  returned = answer (some r);
  proof_length = 0;
  goals_length = 0;
  emitted = no_emitted;
  figures = no_figures;
  class = padded l.class [];
  pattern = padded l.pattern [];
  graph = padded l.graph [];
  work = padded l.work [];
  proof = padded l.text [];
  goals = padded l.goals [];
}

-- "On success 1 and 2 hold class and pattern words (after emit with the nodes it added), 5 and 6 text, 3 and 4 zeros"
unfoldable pub emit_answered : Lent → Emission → EmitLeft
unfolding answer padded class_words pattern_words figures emitted_of proof_of goals_of
emit_answered l w = record {
  returned = answer none;
  proof_length = length (proof_of w);
  goals_length = length (goals_of w);
  emitted = emitted_of w;
  figures = figures w.classed.pack w.classed.built;
  class = padded l.class (class_words w.classed.pack w.classed.built);
  pattern = padded l.pattern (pattern_words w.state.kept.store);
  graph = padded l.graph [];
  work = padded l.work [];
  proof = padded l.text (proof_of w);
  goals = padded l.goals (goals_of w);
}

-- emit is lent the pack and all six buffers
abbrev pub emit_lent : ℕ → ℕ → ℕ → ℕ → ℕ → ℕ → ℕ → Lent
emit_lent pack class pattern graph work proof goals = record { pack = pack; class = class; pattern = pattern; graph = graph; work = work; text = proof; goals = goals }

unfoldable pub cert_emit : List ℕ → ℕ → ℕ → ℕ → ℕ → ℕ → ℕ → EmitLeft
unfolding called emit_run emit_refused emit_answered
cert_emit pack class pattern graph work proof goals =
    let l = emit_lent (length pack) class pattern graph work proof goals in
    elim (called emit_run pack l) [ refuse r ↦ emit_refused l r | fine w ↦ emit_answered l w ]

-- "on a refusal only its number and place on one line"
unfoldable pub refusal_line : Answer → List ℕ
unfolding bytes decimal
refusal_line a = decimal a.code ++ (bytes " " ++ (decimal a.place ++ bytes "\n"))

-- "a pack of at most 512 bytes"
abbrev pub most_input : ℕ
most_input = 512

-- "It lends 256 class, 128 pattern, 128 graph and 13,312 work cells, 4,096 proof and 1,024 goal bytes"
abbrev pub certgen_lent : ℕ → Lent
certgen_lent pack = emit_lent pack 256 128 128 13312 4096 1024

-- from standard input to what is written: "the proof lines, `--`, the goal lines"; "`2 0` for a longer input"
unfoldable pub certgen : List ℕ → List ℕ
unfolding bytes called emit_run answer refusal_line proof_of goals_of
certgen input =
    elim (ltb most_input (length input)) [
      | true ↦ bytes "2 0\n"
      | false ↦ elim (called emit_run input (certgen_lent (length input))) [ refuse r ↦ refusal_line (answer (some r)) | fine w ↦ proof_of w ++ (bytes "--\n" ++ goals_of w) ]
    ]
