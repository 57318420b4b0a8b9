-- What the step check promises, and the laws of its parts.
use Rattle.std.specs.Prelude.{◌≡◌, refl, List, ℕ, length, replicate}
use Rattle.std.proofs.Common.{sym, ◌∙◌, arith}
use Rattle.std.proofs.Math.Path.{ap}
use Rattle.std.proofs.Math.Option.{Option, none, some}
use Rattle.definition.specs.Pack.{Pack}
use Rattle.definition.specs.Frame.{fine}
use Rattle.definition.specs.Parse.{parse}
use Rattle.definition.specs.Answer.{answer_of, answer, lengths, padded-none}
use Rattle.definition.specs.Verdict.{Accepted}
use Rattle.definition.specs.Check.{check_lent, check_refusal, CheckLeft, cert_check}
use Rattle.definition.proofs.Laws.Check.{check_yes, yes_check}
use Rattle.definition.specs.declared.Answer.{Answer}
use Rattle.definition.specs.declared.Refusal.{Refusal}
use Rattle.definition.specs.declared.Refusal.TheVariants.{Form, Limit, Step, Goal, Clash, Circle, Instance, Short, Sorts, Cut, Ground}

-- document 01, "Verdict on the steps": "A yes holds just in that case", of bytes and of a length of work that passes
pub record Statement (bytes : List ℕ) (work : ℕ) (a : Answer) : Type 0 where
  pub yes : a.code ≡ 0 → (P : Pack) × (parse bytes ≡ fine P) × Accepted P
  pub just : (P : Pack) → lengths (check_lent (length bytes) work) ≡ none → parse bytes ≡ fine P → Accepted P → a.code ≡ 0

-- a refusal's number is not 0
numbered : (r : Refusal) → (answer_of r).code ≡ 0 → ⊥
unfolding answer_of
numbered (Form a) e = absurd (omega arith)
numbered (Limit a) e = absurd (omega arith)
numbered (Step a) e = absurd (omega arith)
numbered (Goal a) e = absurd (omega arith)
numbered (Clash a) e = absurd (omega arith)
numbered (Circle a) e = absurd (omega arith)
numbered (Instance a) e = absurd (omega arith)
numbered (Short a) e = absurd (omega arith)
numbered Sorts e = absurd (omega arith)
numbered (Cut a) e = absurd (omega arith)
numbered (Ground a) e = absurd (omega arith)

none-answered : (o : Option Refusal) → (answer o).code ≡ 0 → o ≡ none
unfolding answer
none-answered none e = refl
none-answered (some r) e = absurd (numbered r e)

module _ (bytes : List ℕ) (work : ℕ) where
  pub check_left : (o : Option Refusal) (a : Answer) (w : List ℕ) → o ≡ check_refusal bytes work → a ≡ answer o → w ≡ replicate work 0 → ◌≡◌ {A = CheckLeft} (record { returned = a; work = w }) (cert_check bytes work)
  unfolding cert_check
  check_left o a w e f g = rw (f, g, e, ← padded-none work)

  pub check_statement : (o : Option Refusal) (a : Answer) → o ≡ check_refusal bytes work → a ≡ answer o → Statement bytes work a
  unfolding answer
  check_statement o a e f = record {
    yes = λ z. check_yes bytes work (sym e ∙ none-answered o (ap (λ (x : Answer). x.code) (sym f) ∙ z));
    just = λ P l p A. ap (λ (x : Answer). x.code) f ∙ ap (λ (x : Option Refusal). (answer x).code) (e ∙ yes_check bytes work P l p A);
  }
