use Rattle.curp_gather.proofs.Holding.{all_held}
use Rattle.curp_gather.proofs.ruled.ruled_journals_hold.Goals as goal

pub returns : goal.returns
returns c = all_held _ c.requires.apart c.requires.ruled
