-- The failure memory's law of every good pack: a try at a judgment that wrote no line does the same again, with no node and no note,
-- at its own depth and at every greater one, in every later state with the same judgments proved and the same hypotheses.
use Rattle.std.specs.Prelude.{◌≡◌, List, [], ℕ, ◌≤◌}
use Rattle.std.proofs.Common.{sym, ap, ◌∙◌, arith}
use Rattle.std.proofs.Math.Option.{Option, none}
use Rattle.definition.specs.Good.{Good, Few}
use Rattle.definition.specs.Verdict.{Bound}
use Rattle.definition.specs.Run.{Note}
use Rattle.emission.specs.State.{Emitter, Setting, Tried}
use Rattle.emission.specs.Prove.{prove}
use Rattle.emit_theory.specs.Came.{came}
use Rattle.emit_theory.specs.Again.Later.{text_length, Later, Fit}
use Rattle.emit_theory.specs.Again.Outcome.{Any, Outcome, Again, outcome-later}
use Rattle.emit_theory.specs.Again.Prove.{prove_again}

-- a search comes to one end only
came-parts : {A : Type 0} {ns ms : List Note} {o p : Option A} {a b : Emitter} → came ns o a ≡ came ms p b → (o ≡ p) × (a ≡ b)
came-parts {A = A} {o = o} {p = p} {a = a} {b = b} e =
    let q : ◌≡◌ {A = Tried A} (record { result = o; state = a }) (record { result = p; state = b }) = cc in
    (ap (λ (t : Tried A). t.result) q, ap (λ (t : Tried A). t.state) q)

module _ (S : Setting) (G : Good S.pack) (W : Few S.pack) where
  -- the law: d levels are left for the try, and no more for its repetition
  pub memory : (hyps : List Bound) (d d' : ℕ) → d' ≤ d → (j : ℕ) (e : Emitter) → Fit e.kept.store j → Again S 0 Any (prove d S hyps j) (prove d' S hyps j) e
  memory hyps d d' h j e fit = prove_again S G W hyps d d' h j e fit

  -- the same of the end that a try is known to have come to
  pub memory_of : (hyps : List Bound) (d d' j : ℕ) (e e₁ : Emitter) (ns : List Note) (o : Option ℕ) → d' ≤ d → Fit e.kept.store j → prove d S hyps j e ≡ came ns o e₁
      → Outcome S 0 Any (prove d S hyps j) (prove d' S hyps j) e o e₁
  memory_of hyps d d' j e e₁ ns o h fit so =
      let R = memory hyps d d' h j e fit in
      let parts = came-parts (sym R.outcome.is_so ∙ so) in
      rw (sym parts.0, sym parts.1) R.outcome

  -- behind a try that wrote no line the state is a later one
  pub quiet_later : (hyps : List Bound) (d j : ℕ) (e e₁ : Emitter) (ns : List Note) (o : Option ℕ) → Fit e.kept.store j → prove d S hyps j e ≡ came ns o e₁
      → text_length S e₁ ≡ text_length S e → Later e e₁
  quiet_later hyps d j e e₁ ns o fit so quiet = outcome-later S (memory_of hyps d d j e e₁ ns o (omega arith) fit so) (omega arith)

  -- a try that wrote no line does the same again, at its own depth and at every greater one, in every later state
  pub does_again : (hyps : List Bound) (d d' j : ℕ) (e e₁ e' : Emitter) (ns : List Note) (o : Option ℕ) → d' ≤ d → Fit e.kept.store j → prove d S hyps j e ≡ came ns o e₁
      → text_length S e₁ ≡ text_length S e → Later e₁ e' → prove d' S hyps j e' ≡ came [] o e'
  does_again hyps d d' j e e₁ e' ns o h fit so quiet l = (memory_of hyps d d' j e e₁ ns o h fit so).again (omega arith) e' l

  -- so one that failed without a line may be passed over there
  pub passed_over : (hyps : List Bound) (d d' j : ℕ) (e e₁ e' : Emitter) (ns : List Note) → d' ≤ d → Fit e.kept.store j → prove d S hyps j e ≡ came ns none e₁
      → text_length S e₁ ≡ text_length S e → Later e₁ e' → prove d' S hyps j e' ≡ came [] none e'
  passed_over hyps d d' j e e₁ e' ns h fit so quiet l = does_again hyps d d' j e e₁ e' ns none h fit so quiet l
