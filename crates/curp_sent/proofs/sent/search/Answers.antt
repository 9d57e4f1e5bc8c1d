use Rattle.curp_sent.proofs.BatchLaws.{absent_at}
use Rattle.curp_sent.proofs.sent.search.Goals as goal

pub returns-in_default-clause-absent : goal.returns-in_default-clause-absent
returns-in_default-clause-absent c = absent_at _ c.args.number _ c.requires c.binary_search.ensures.position
