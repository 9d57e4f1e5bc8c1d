use Rattle.curp_durable.proofs.Unique.{one_list}
use Rattle.curp_durable.proofs.laws.bytes_are_one_journal.Goals as goal

pub returns : goal.returns
returns c = one_list
