use Rattle.curp_gather.proofs.Scans.{none_prefix}
use Rattle.curp_gather.proofs.compare.after_message.Goals as goal

pub returns-in_default : goal.returns-in_default
returns-in_default c = none_prefix _ _ c.in_default.ensures
