-- What the call comes to, and what it leaves in its buffers.
use Rattle.std.specs.Prelude.{List, ℕ, length, replicate}
use Rattle.std.proofs.Math.Option.{none, some}
use Rattle.definition.specs.Pack.{Pack}
use Rattle.definition.specs.Frame.{fine, refuse}
use Rattle.definition.specs.Parse.{parse}
use Rattle.definition.specs.Answer.{Lent, answer_of, padded}
use Rattle.definition.specs.declared.Refusal.{Refusal}
use Rattle.dock_call.specs.Opening.{opening_refusal}
use Rattle.host_search.specs.declared.answer.Searched.{Searched}

-- a line's number and one, or 0, with the proof text; or a refusal's number and place
pub data Came : Type 0 where
  told : ℕ → List ℕ → Came
  refused : ℕ → ℕ → Came

-- a refusal by the table of all calls
abbrev pub refusal : Refusal → Came
refusal r = refused (answer_of r).code (answer_of r).place

-- the call's answer and its three buffers
pub record Left : Type 0 where
  pub answer : Searched
  pub work : List ℕ
  pub patterns : List ℕ
  pub proof : List ℕ

-- what the call says
unfoldable pub said : Came → Searched
said (told n text) = record { code = 0; place = 0; line = n; text = length text }
said (refused code place) = record { code = code; place = place; line = 0; text = 0 }

-- the text and zeros behind it; a refusal has none
unfoldable pub text_left : Came → ℕ → List ℕ
unfolding padded
text_left (told n text) room = padded room text
text_left (refused code place) room = replicate room 0

-- what it leaves: zeros all over work and the patterns
unfoldable pub leaves : Came → ℕ → ℕ → ℕ → Left
unfolding said text_left
leaves came work patterns proof = record { answer = said came; work = replicate work 0; patterns = replicate patterns 0; proof = text_left came proof }

-- the lengths lent to the call
abbrev pub lent_to : ℕ → ℕ → ℕ → ℕ → Lent
lent_to pack work patterns proof = record { pack = pack; class = 0; pattern = patterns; graph = 0; work = work; text = proof; goals = 0 }

-- the lengths tested and the pack read, then what is made of both
unfoldable pub opened : Lent → List ℕ → (Lent → Pack → Came) → Came
unfolding opening_refusal parse
opened l pack f =
    elim (opening_refusal l pack) [
      | some r ↦ refusal r
      | none ↦ elim (parse pack) [ refuse r ↦ refusal r | fine P ↦ f l P ]
    ]
