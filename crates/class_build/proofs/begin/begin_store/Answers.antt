-- `begin_store` meets its contract.
use Rattle.base.specs.Part.{part}
use Rattle.class_build.specs.Begin.{index_enough, store_begun}
use Rattle.class_build.proofs.begin.begin_store.Goals as goal

pub new-st-requires : goal.new-st-requires
unfolding part
new-st-requires c = index_enough _ _ _ c.requires

pub returns : goal.returns
unfolding part
returns c = store_begun _ _ _ c.requires c.new-st.new.index _ _ c.new-st.auto.index c.new-st.ensures.0 c.new-st.ensures.1 (rw c.lifting.ensures at c.clear.ensures)
