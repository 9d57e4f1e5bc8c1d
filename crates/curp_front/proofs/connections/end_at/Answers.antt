use Rattle.curp_front.specs.Conversation.{gone}
use Rattle.curp_front.proofs.Finding.{stands_then}
use Rattle.curp_front.proofs.connections.end_at.Goals as goal

pub returns : goal.returns
returns c = λ found s.
    c.forget.ensures (record found { it = gone found.it })
    (stands_then c.args.connections.now.items c.args.at found s gone c.index_mut.result.now c.on_end.new.self c.index_mut.ensures.value c.on_end.ensures)
