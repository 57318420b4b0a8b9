-- The small packs: one table, one theorem.
use Rattle.std.specs.Prelude.{List, [], ◌∷◌, ◌++◌}
use Rattle.definition.specs.Rows.Row.{Row, Holds}
use Rattle.definition.proofs.Rows.Length.{rows as length-rows, hold as length-hold}
use Rattle.definition.proofs.Rows.Name.{rows as name-rows, hold as name-hold}
use Rattle.definition.proofs.Rows.Theory.{rows as theory-rows, hold as theory-hold}
use Rattle.definition.proofs.Rows.Limit.{rows as limit-rows, hold as limit-hold}
use Rattle.definition.proofs.Rows.Certificate.{rows as certificate-rows, hold as certificate-hold}
use Rattle.definition.proofs.Rows.Verdict.{rows as verdict-rows, hold as verdict-hold}
use Rattle.definition.proofs.Rows.Classes.{rows as classes-rows, hold as classes-hold}
use Rattle.definition.proofs.Rows.Order.{rows as order-rows, hold as order-hold}
use Rattle.definition.proofs.Rows.Unify.{rows as unify-rows, hold as unify-hold}
use Rattle.definition.proofs.Rows.Open.{rows as open-rows, hold as open-hold}

-- a table that holds
pub record Part : Type 0 where
  pub rows : List Row
  pub holds : Holds rows

-- two tables that hold, one behind the other
pub both : (rs qs : List Row) → Holds rs → Holds qs → Holds (rs ++ qs)
both [] qs h k = k
both (r ∷ rs) qs h k = (h.0, both rs qs h.1 k)

abbrev pub joined : List Part → Part
joined [] = record { rows = []; holds = tt }
joined (p ∷ ps) = record { rows = p.rows ++ (joined ps).rows; holds = both p.rows (joined ps).rows p.holds (joined ps).holds }

abbrev pub parts : List Part
parts = record { rows = length-rows; holds = length-hold } ∷ record { rows = name-rows; holds = name-hold } ∷ record { rows = theory-rows; holds = theory-hold }
    ∷ record { rows = limit-rows; holds = limit-hold } ∷ record { rows = certificate-rows; holds = certificate-hold } ∷ record { rows = verdict-rows; holds = verdict-hold }
    ∷ record { rows = classes-rows; holds = classes-hold } ∷ record { rows = order-rows; holds = order-hold } ∷ record { rows = unify-rows; holds = unify-hold } ∷ record { rows = open-rows; holds = open-hold } ∷ []

-- every row of every part
pub small_packs : Holds (joined parts).rows
small_packs = (joined parts).holds
