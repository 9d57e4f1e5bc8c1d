use Rattle.std.proofs.Common.{ap}
use Rattle.curp_model.specs.Master.{MasterState}
use Rattle.curp_msg.specs.Moved.{Node}
use Rattle.curp_master.proofs.master.Master.reply_to.Goals as goal

pub returns : goal.returns
returns c =
    ap (λ (m : Node MasterState). record { id = c.args.id; synced = c.args.synced; epoch = m.state.epoch; version = c.args.version; answer = c.args.answer.now }) c.self.view_is
