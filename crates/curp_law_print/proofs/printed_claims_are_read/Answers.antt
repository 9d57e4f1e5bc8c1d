use Rattle.curp_law_print.proofs.Claims.{claim_read}
use Rattle.curp_law_print.proofs.printed_claims_are_read.Goals as goal

pub returns : goal.returns
returns c = claim_read
