-- The refusal that a fault is, at the record's place.
use Rattle.std.specs.Prelude.{ℕ}
use Rattle.definition.specs.declared.Refusal.{Refusal}
use Rattle.definition.specs.declared.Refusal.TheVariants.{Form, Limit}
use Rattle.pack_reader.specs.declared.taken.Fault.{Fault}
use Rattle.pack_reader.specs.declared.taken.Fault.TheVariants.{Bad, Over}

abbrev pub refusal_at : Fault → ℕ → Refusal
refusal_at Bad at = Form at
refusal_at Over at = Limit at
