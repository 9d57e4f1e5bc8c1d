use Rattle.curp_parcels.proofs.Found.{sent_longer}
use Rattle.curp_parcels.proofs.Formats.{sent_there}
use Rattle.curp_parcels.proofs.saying.whole_sent.Goals as goal

pub returns-then-length-bytes : goal.returns-then-length-bytes
returns-then-length-bytes c = sent_there c.args.bytes.now c.args.name c.args.message c.args.length c.requires c.if-length-bytes.true

pub returns-else-length-bytes : goal.returns-else-length-bytes
returns-else-length-bytes c = sent_longer c.args.bytes.now c.args.name c.args.message c.args.length c.requires c.if-length-bytes.false
