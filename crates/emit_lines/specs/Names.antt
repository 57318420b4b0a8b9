-- Numbers that are no rule's and no goal's have no name.
use Rattle.std.specs.Prelude.{◌≡◌, List, [], ℕ, ◌≤◌, length}
use Rattle.std.proofs.Math.Path.{ap}
use Rattle.std.proofs.Common.{arith}
use Rattle.std.proofs.Math.ListN.{get_or-eq_default}
use Rattle.definition.specs.Pack.{Goal, Pack, no_rule, rule_of}
use Rattle.definition.specs.Verdict.{no_goal}
use Rattle.emission.specs.Render.{goal_name}
use Rattle.pack_tables.specs.Catalog.{records_of}
use Rattle.pack_tables.specs.declared.catalog.Catalog.{Catalog}
use Rattle.pack_read.specs.Reads.{Reads, length-rules, length_goals}

module _ (bytes work : List ℕ) (c : Catalog) (P : Pack) (R : Reads bytes (records_of work c) P) where
  pub no_rule_law : (i : ℕ) → length (records_of work c 2) ≤ i → rule_of P i ≡ no_rule
  unfolding rule_of
  no_rule_law i l = get_or-eq_default P.rules no_rule (omega (arith, l, length-rules bytes (records_of work c) P R))

  pub no_goal_law : (g : ℕ) → length (records_of work c 5) ≤ g → goal_name P g ≡ []
  unfolding goal_name
  no_goal_law g l = ap (λ (x : Goal). x.name) (get_or-eq_default P.goals no_goal (omega (arith, l, length_goals bytes (records_of work c) P R)))
