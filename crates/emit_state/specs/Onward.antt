-- From a sound state to the next: what the definition's laws say of a run, for the state that the buffers hold behind it.
use Rattle.std.specs.Prelude.{◌≡◌, List}
use Rattle.std.proofs.Common.{sym, ap, subst, ◌∙◌}
use Rattle.std.proofs.Math.Option.{Option, none, some}
use Rattle.definition.specs.Test.{is, see, never}
use Rattle.definition.specs.Frame.{fine}
use Rattle.definition.specs.Answer.{Lent}
use Rattle.definition.proofs.Laws.Frame.{fine_eq}
use Rattle.definition.specs.Run.{Note, first_short, outcome}
use Rattle.emission.specs.State.{Emitter, Setting, Tried, Search}
use Rattle.emit_theory.specs.Came.{came}
use Rattle.emit_theory.specs.Sound.{Sound, Grew}
use Rattle.emit_theory.specs.Comes.{Comes as Kept}
use Rattle.emit_theory.specs.Search.Proving.{supposed_on}
use Rattle.emit_state.specs.Holding.{Buffers, World, Holding, Ready}
use Rattle.emit_state.specs.declared.places.Places.{Places}
use Rattle.emit_state.specs.declared.standing.Standing.{Standing}

-- a run that is fine in the lengths lent came to just that
pub fine_came : {A : Type 0} (l : Lent) (ns : List Note) (o : Option A) (e : Emitter) (t : Tried A) → outcome l (came ns o e) ≡ fine t → (o ≡ t.result) × (e ≡ t.state)
unfolding outcome
fine_came {A = A} l ns o e t h = elim (see (first_short l ns)) [
  | is none z ↦
      let q : ◌≡◌ {A = Tried A} (record { result = o; state = e }) t = fine_eq (rw (z, outcome) at h) in
      (ap (λ (x : Tried A). x.result) q, ap (λ (x : Tried A). x.state) q)
  | is (some b) z ↦ let q = rw (z, outcome) at h in never (cc)
]

-- the state come to is sound and has grown, and of a result Q holds
pub record On {A : Type 0} (S : Setting) (Q : A → Emitter → Type 0) (e : Emitter) (t : Tried A) : Type 0 where
  pub grew : Grew e t.state
  pub sound : Sound S t.state
  pub holds : (a : A) → t.result ≡ some a → Q a t.state

pub goes_on : {A : Type 0} (l : Lent) (S : Setting) (Q : A → Emitter → Type 0) (m : Search A) (e : Emitter) (t : Tried A) → Kept S Q m e → outcome l (m e) ≡ fine t → On S Q e t
goes_on {A = A} l S Q m e t C h =
    let p = fine_came l C.notes C.result C.state t (ap (outcome l) (sym C.is_so) ∙ h) in
    record {
      grew = subst (λ (x : Emitter). Grew e x) p.1 C.grew;
      sound = subst (λ (x : Emitter). Sound S x) p.1 C.sound;
      holds = λ a z. subst (λ (x : Emitter). Q a x) p.1 (C.holds a (p.0 ∙ z));
    }

-- what the buffers hold behind a run is ready for the next
pub ready_on : {A : Type 0} (b b' : Buffers) (l : Places) (m m' : Standing) (w : World) (e : Emitter) (Q : A → Emitter → Type 0) (t : Tried A) → Ready b l m w e → On w.setting Q e t → Holding b' l m' w t.state → Ready b' l m' w t.state
ready_on b b' l m m' w e Q t R O H = record { holding = H; sound = O.sound; supposed = supposed_on e t.state O.grew w.hyps R.supposed }
