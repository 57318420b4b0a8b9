-- `figures_of` meets its contract.
use Rattle.class_build.specs.Figures.{figured}
use Rattle.class_build.proofs.figures.figures_of.Goals as goal

pub returns : goal.returns
returns c = figured _ _ _ _ _ _ _ _ c.histogram-s.ensures c.len-patterns.ensures
