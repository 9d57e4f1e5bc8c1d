use Rattle.curp_front.specs.Conversation.{settled}
use Rattle.curp_front.proofs.Finding.{became_there}
use Rattle.curp_front.proofs.connections.settle_at.Goals as goal

pub returns : goal.returns
returns c = λ found s.
    became_there c.args.connections.now.items c.args.at found s (settled c.args.due.now) c.index_mut.result.now c.settle.new.self c.index_mut.ensures.value c.settle.ensures
