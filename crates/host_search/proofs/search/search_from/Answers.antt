-- `search_from` meets its contract.
use Rattle.host_search.specs.Begun.{begun-asked, begun-sought}
use Rattle.host_search.proofs.search.search_from.Goals as goal

pub prove-requires : goal.prove-requires
prove-requires c =
    begun-asked _ _ _ _ c.args.proof.now c.args.l c.args.st c.args.j c.args.q c.requires _ c.begin-m.ensures

pub returns : goal.returns
returns c =
    begun-sought _ _ _ _ c.args.proof.now c.args.l c.args.st c.args.j c.args.q c.requires _ c.begin-m.ensures _ _ _ c.prove.result c.seek.result c.prove.ensures c.seek.ensures
