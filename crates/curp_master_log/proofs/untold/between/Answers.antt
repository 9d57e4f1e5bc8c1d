use Rattle.curp_master_log.proofs.Beside.{split_if_read}
use Rattle.curp_master_log.proofs.untold.between.Goals as goal

pub returns : goal.returns
returns c = split_if_read c.between.result c.args.log.now.entries c.args.from c.args.to c.requires c.between.ensures
