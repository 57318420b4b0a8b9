-- What reading alone answers, for every pack and every length of work.
use Rattle.std.specs.Prelude.{Result, Ok, Err}
use Rattle.std.specs.Prelude.{◌≡◌, List, [], ℕ, length, replicate}
use Rattle.std.proofs.Common.{sym}
use Rattle.definition.specs.Answer.{answer, padded, padded-none}
use Rattle.definition.specs.Check.{check_lent, CheckLeft}
use Rattle.definition.specs.declared.Answer.{Answer}
use Rattle.dock_call.specs.Outcome.{refusal_of}
use Rattle.dock_call.specs.Lengths.{lent_of}
use Rattle.dock_call.specs.Opening.{opening_refusal, Opens, pack_opened}
use Rattle.dock_call.specs.declared.lent.Lent.{Lent}
use Rattle.definition.specs.declared.Refusal.{Refusal}

-- what the call returns, and what it leaves in work: zeros
unfoldable pub read_only : List ℕ → ℕ → CheckLeft
unfolding answer opening_refusal padded
read_only pack work = record { returned = answer (opening_refusal (check_lent (length pack) work) pack); work = padded work [] }

-- an outcome of opening is the refusal, if there is one
opened_is : (l : Lent) (pack work' : List ℕ) (o : Result (Unit {0}) Refusal) → Opens l pack work' o → opening_refusal (lent_of l) pack ≡ refusal_of o
opened_is l pack work' (Ok tt) p = pack_opened (lent_of l) pack (sym p.0) p.1 p.2
opened_is l pack work' (Err r) p = p

-- its answer, and zeros
pub left_is : (l : Lent) (pack work' : List ℕ) (n : ℕ) (o : Result (Unit {0}) Refusal) (a : Answer) (w : List ℕ) → lent_of l ≡ check_lent (length pack) n → Opens l pack work' o → a ≡ answer (refusal_of o) → w ≡ replicate n 0
    → ◌≡◌ {A = CheckLeft} (record { returned = a; work = w }) (read_only pack n)
unfolding read_only
left_is l pack work' n o a w e p f g = rw (f, g, ← opened_is l pack work' o p, e, ← padded-none n)
