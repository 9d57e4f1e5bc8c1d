-- The due ids leave the queue, and go to each witness.
use Rattle.std.proofs.Common.{◌≡◌, ℕ, List, map, None, not, refl}
use Rattle.std.specs.List.{filter}
use Rattle.curp_cmd.specs.Node.{master_node}
use Rattle.curp_cmd.specs.declared.command.RequestId.{RequestId}
use Rattle.curp_tail.specs.Queue.{has_come}
use Rattle.curp_model.specs.Master.{MasterState, Open, Queued, collect_in, synced}
use Rattle.curp_msg.specs.Moved.{Makes, Node, numbered_move, says_each}
use Rattle.curp_msg.specs.declared.body.Body.TheVariants.{Gc}
use Rattle.curp_msg.specs.declared.message.Message.{Message}

pub collected_moves : (node : Node MasterState) (next : ℕ) (queue : List Queued) (ids : List RequestId) (sent : List Message)
    → node.state.phase ≡ Open → next ≡ synced node.state → queue ≡ filter (λ q. not (has_come next q)) node.state.queue
    → ids ≡ map (λ q. q.id) (filter (has_come next) node.state.queue)
    → sent ≡ says_each (master_node node.number) node.state.witnesses (Gc (record { epoch = node.state.epoch; ids = ids }))
    → Makes (record node { state = record node.state { queue = queue } }) (record { refused = 0; sent = sent; invoked = None; completed = None })
    (numbered_move node.number (collect_in node.number node.state node.state.phase))
collected_moves node next queue ids sent free its its_queue its_ids its_sent = rw (its_sent, its_ids, its_queue, its, free) (refl, refl)
