use Rattle.curp_parcels.proofs.Lengths.{same_first}
use Rattle.curp_parcels.proofs.laws.one_stands_first.Goals as goal

pub returns : goal.returns
returns c = same_first
