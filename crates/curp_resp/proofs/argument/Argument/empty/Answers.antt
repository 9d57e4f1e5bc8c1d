use Rattle.curp_resp.proofs.InPlace.{zeros_in_place}
use Rattle.curp_resp.proofs.argument.Argument.empty.Goals as goal

pub invariant_of-result : goal.invariant_of-result
invariant_of-result c = zeros_in_place 129
