use Rattle.curp_rounds.proofs.Places.{absent}
use Rattle.curp_rounds.proofs.indexes.place.Goals as goal

pub returns-clause-absent : goal.returns-clause-absent
returns-clause-absent c = absent c.args.numbers.now c.args.number c.binary_search.result c.requires c.binary_search.ensures.position
