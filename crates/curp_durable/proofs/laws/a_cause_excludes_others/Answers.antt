use Rattle.curp_durable.proofs.Unique.{only_cause}
use Rattle.curp_durable.proofs.laws.a_cause_excludes_others.Goals as goal

pub returns : goal.returns
returns c = only_cause
