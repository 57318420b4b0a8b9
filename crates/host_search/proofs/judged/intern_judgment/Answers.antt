-- `intern_judgment` meets its contract.
use Rattle.host_search.specs.Judged.{eigen_short, eigen_lifts, judges}
use Rattle.host_search.proofs.judged.intern_judgment.Goals as goal

pub lift-requires : goal.lift-requires
lift-requires c =
    let A = c.in_ok-st.ensures in
    (eigen_lifts _ _ _ _ _ _ c.requires.0 c.requires.1 c.args.n.0 _ _ _ _ A, c.requires.2)

pub returns : goal.returns
returns c =
    let A = c.in_ok-st.ensures in
    judges _ _ _ _ _ _ c.requires.0 c.requires.1 c.args.n.0 _ _ _ _ A _ _ c.lift.result c.intern_eigen.auto.words c.lift.ensures

pub returns-in_err-st : goal.returns-in_err-st
returns-in_err-st c =
    let w = c.intern_eigen in
    let A = c.in_err-st.ensures in
    rw c.from_residual.ensures (eigen_short _ _ _ _ _ _ c.requires.0 c.requires.1 c.args.n.0 w.new.work w.new.words A)
