use Rattle.curp_batches.proofs.Changes.{changed}
use Rattle.curp_batches.proofs.laws.a_changed_byte_is_found.Goals as goal

pub returns : goal.returns
returns c = changed
