-- The failure memory in every state that emission reaches: a sound state's patterns stand in a store that has all below them, so a judgment that
-- was tried without a line need not be tried again.
use Rattle.std.specs.Prelude.{◌≡◌, List, [], ℕ, ◌≤◌}
use Rattle.std.proofs.Math.Option.{Option, none}
use Rattle.definition.specs.Pack.{prop}
use Rattle.definition.specs.Frame.{fine}
use Rattle.definition.specs.Parse.{parse}
use Rattle.definition.proofs.Laws.Good.{parsed_good, parsed_few}
use Rattle.definition.specs.Verdict.{Bound}
use Rattle.definition.specs.Run.{Note}
use Rattle.emission.specs.State.{Emitter, Setting}
use Rattle.emission.specs.Prove.{prove}
use Rattle.emit_theory.specs.Came.{came}
use Rattle.emit_theory.specs.Again.Later.{text_length, Later, Fit}
use Rattle.emit_theory.specs.Again.Memory.{does_again}
use Rattle.emit_theory.specs.Stores.{sorted_earlier}
use Rattle.emit_theory.specs.Sound.{Sound}
use Rattle.emit_theory.specs.Search.Proving.{Has}

-- what a sound state has stands there with all below it
pub sound_fit : (S : Setting) (e : Emitter) → Sound S e → (so p : ℕ) → Has S e so p → Fit e.kept.store p
sound_fit S e s so p h = (sorted_earlier S.pack e.kept.store s.sorted, h.stored)

module _ (S : Setting) (bytes : List ℕ) (read : parse bytes ≡ fine S.pack) where
  -- a try that wrote no line does the same again, with no node and no note, at its own depth and at every greater one, in every later state
  pub tried_again : (hyps : List Bound) (d d' j : ℕ) (e e₁ e' : Emitter) (ns : List Note) (o : Option ℕ) → d' ≤ d → Sound S e → Has S e prop j → prove d S hyps j e ≡ came ns o e₁
      → text_length S e₁ ≡ text_length S e → Later e₁ e' → prove d' S hyps j e' ≡ came [] o e'
  tried_again hyps d d' j e e₁ e' ns o less s h so same later = does_again S (parsed_good bytes S.pack read) (parsed_few bytes S.pack read) hyps d d' j e e₁ e' ns o less (sound_fit S e s prop j h) so same later

  -- so one that failed may be passed over
  pub failed_again : (hyps : List Bound) (d d' j : ℕ) (e e₁ e' : Emitter) (ns : List Note) → d' ≤ d → Sound S e → Has S e prop j → prove d S hyps j e ≡ came ns none e₁
      → text_length S e₁ ≡ text_length S e → Later e₁ e' → prove d' S hyps j e' ≡ came [] none e'
  failed_again hyps d d' j e e₁ e' ns less s h so same later = tried_again hyps d d' j e e₁ e' ns none less s h so same later
