-- A call's outcome as the definition has it.
use Rattle.std.specs.Prelude.{Result, Ok, Err}
use Rattle.std.proofs.Math.Option.{Option, none, some}
use Rattle.definition.specs.declared.Refusal.{Refusal}

-- the refusal, if it is one
abbrev pub refusal_of : Result (Unit {0}) Refusal → Option Refusal
refusal_of (Ok tt) = none
refusal_of (Err r) = some r
