-- `open_store` meets its contract.
use Rattle.host_walk.specs.Places.{stores}
use Rattle.host_walk.proofs.place.open_store.Goals as goal

pub shape_of-work : goal.shape_of-work
shape_of-work c = search

pub returns : goal.returns
returns c = let a = c.args in stores a.pack.now a.work.now a.words.now a.c a.l c.requires.0 c.requires.1 c.requires.2 c.requires.3 c.new-st.new.index c.new-st.auto.index c.new-st.result c.new-st.ensures.0 c.new-st.ensures.1 c.clear.new.work c.clear.ensures
