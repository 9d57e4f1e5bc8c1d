use Rattle.curp_resp.proofs.Prefixes.{one_request}
use Rattle.curp_resp.proofs.laws.requests_are_prefix_free.Goals as goal

pub returns : goal.returns
returns c = λ one other its others rest left h i same. one_request one other its others rest left h i same
