use Rattle.curp_batches.proofs.Checksums.{one_encoding}
use Rattle.curp_batches.proofs.laws.bytes_are_one_batch.Goals as goal

pub returns : goal.returns
returns c = one_encoding
