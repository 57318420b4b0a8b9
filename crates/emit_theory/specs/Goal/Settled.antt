-- What is open set to its ground value, by the steps laid and their uses: the graph stays well sorted and keeps its nodes.
use Rattle.std.proofs.Common.{sym, ◌∙◌}
use mathlib.Core.List.{List, [], ◌∷◌, ◌++◌, map}
use Rattle.std.proofs.Math.Option.{Option, none, some}
use Rattle.std.specs.Prelude.{ℕ, suc, ◌+◌, length}
use Rattle.definition.specs.Pack.{Pack, step_of}
use Rattle.definition.specs.Good.{Good, Few}
use Rattle.definition.specs.Graph.{Graph}
use Rattle.emission.specs.Global.{Lowered}
use Rattle.emission.specs.Lay.{Use, Placed}
use Rattle.emission.specs.Derive.{uses_among, uses_of, settled}
use Rattle.emit_theory.specs.Graphs.{SortedGraph}
use Rattle.emit_theory.specs.Graph.Kept.{Keeps}
use Rattle.emit_theory.specs.Graph.Lower.{Lowers}
use Rattle.emit_theory.specs.Graph.Settle.{Beside, settle_sorted}
use Rattle.emit_theory.specs.Goal.Placed.{UsesIn, AllPlaced}
use Rattle.emit_theory.specs.Goal.Output.{AllUses}

module _ (P : Pack) (g : Graph) where
  uses_some : (us : List (Option Use)) → UsesIn P g us → AllUses P g (uses_among us)
  unfolding uses_among
  uses_some [] U = tt
  uses_some (none ∷ us) U = uses_some us U
  uses_some (some u ∷ us) U = (U.0, uses_some us U.1)

  uses_both : (us vs : List Use) → AllUses P g us → AllUses P g vs → AllUses P g (us ++ vs)
  uses_both [] vs A B = B
  uses_both (u ∷ us) vs A B = (A.0, uses_both us vs A.1 B)

  -- the uses of steps that were laid
  pub uses_placed : (ps : List Placed) → AllPlaced P g ps → AllUses P g (uses_of ps)
  unfolding uses_of
  uses_placed [] A = tt
  uses_placed (p ∷ ps) A = uses_both (uses_among p.uses) (uses_of ps) (uses_some p.uses A.0.uses) (uses_placed ps A.1)

  uses_beside : (us : List Use) → AllUses P g us → Beside P g (map (λ (u : Use). u.node) us) (map (λ (u : Use). u.judgment) us)
  uses_beside [] A = tt
  uses_beside (u ∷ us) A = (A.0.inside, A.0.given, A.0.sort ∙ sym A.0.predicate, uses_beside us A.1)

  module _ (good : Good P) where
    steps_beside : (ps : List Placed) (xs ns : List ℕ) → AllPlaced P g ps → Beside P g xs ns → Beside P g (map (λ (p : Placed). p.conclusion) ps ++ xs) (map (λ (p : Placed). (step_of P p.step).judgment) ps ++ ns)
    steps_beside [] xs ns A B = B
    steps_beside (p ∷ ps) xs ns A B = let J = (good.steps p.step A.0.given).judgment in (A.0.inside, J.given, A.0.sort ∙ sym J.predicate, steps_beside ps xs ns A.1 B)

-- a graph settled
pub record Settled (P : Pack) (g h : Graph) : Type 0 where
  pub sorted : SortedGraph P h
  pub keeps : Keeps g h

-- from ground nodes that were lowered
pub settled_sorted : (P : Pack) → Good P → Few P → (ps : List Placed) (w : Lowered) → Lowers P w → AllPlaced P w.graph ps → Settled P w.graph (settled P ps w)
unfolding settled
settled_sorted P good few ps w W A =
    let us = uses_of ps in
    let nodes = map (λ (p : Placed). p.conclusion) ps ++ map (λ (u : Use). u.node) us in
    let grounds = map (λ (p : Placed). (step_of P p.step).judgment) ps ++ map (λ (u : Use). u.judgment) us in
    let B = steps_beside P w.graph good ps (map (λ (u : Use). u.node) us) (map (λ (u : Use). u.judgment) us) A (uses_beside P w.graph us (uses_placed P w.graph ps A)) in
    let R = settle_sorted P good few (suc (length w.graph + length P.nodes)) nodes grounds (record { lowered = w; met = [] }) B W in
    record { sorted = R.lowers.sorted; keeps = R.keeps }
