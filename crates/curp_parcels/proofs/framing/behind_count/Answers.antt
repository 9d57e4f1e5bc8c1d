use Rattle.std.proofs.Common.{arith}
use Rattle.curp_parcels.proofs.Lengths.{whole_first}
use Rattle.curp_parcels.proofs.framing.behind_count.Goals as goal

pub returns-then-count-rest : goal.returns-then-count-rest
returns-then-count-rest c = whole_first c.args.count c.args.rest.now (omega (arith, c.if-count-gt-PARCEL_LIMIT.false)) (omega (arith, c.if-count-rest.true))
