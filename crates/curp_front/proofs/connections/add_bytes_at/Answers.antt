use Rattle.std.proofs.lemmas.Result.{on_ok_weaker}
use Rattle.curp_front.specs.Conversation.{came}
use Rattle.curp_front.proofs.Finding.{became_there}
use Rattle.curp_front.proofs.connections.add_bytes_at.Goals as goal

pub returns-clause-ok : goal.returns-clause-ok
returns-clause-ok c = λ found s.
    on_ok_weaker c.on_bytes.result
    (λ is. became_there c.args.connections.now.items c.args.at found s (came c.args.bytes.now) c.index_mut.result.now c.on_bytes.new.self c.index_mut.ensures.value is)
    c.on_bytes.ensures.ok
