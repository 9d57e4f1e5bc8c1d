use Rattle.curp_durable.proofs.Unique.{whole}
use Rattle.curp_durable.proofs.laws.a_journal_is_whole.Goals as goal

pub returns : goal.returns
returns c = whole
