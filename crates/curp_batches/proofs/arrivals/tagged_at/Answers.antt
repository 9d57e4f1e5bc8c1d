use Rattle.curp_batches.proofs.Encodings.{message_tagged, order_tagged}
use Rattle.curp_batches.proofs.arrivals.tagged_at.Goals as goal

pub returns-in-Ok : goal.returns-in-Ok
returns-in-Ok c = message_tagged c.args.tag c.args.rest.now c.in-Ok.named c.in-Ok.length c.in-0.is c.in-Ok.ensures

pub returns-in-Ok-stamped_at : goal.returns-in-Ok-stamped_at
returns-in-Ok-stamped_at c = order_tagged c.args.tag c.args.rest.now c.in-Ok-stamped_at.stamped c.in-Ok-stamped_at.length c.in-1.is c.in-Ok-stamped_at.ensures
