use Rattle.std.proofs.Common.{◌∙◌, List, map, not, ap, sym}
use Rattle.std.specs.List.{filter}
use Rattle.curp_cmd.specs.Node.{master_node}
use Rattle.curp_cmd.specs.declared.node.NodeId.{NodeId}
use Rattle.curp_tail.specs.Queue.{has_come}
use Rattle.curp_model.specs.Master.{MasterState, Queued, synced}
use Rattle.curp_msg.specs.Moved.{Node, says_each}
use Rattle.curp_msg.specs.declared.body.Body.TheVariants.{Gc}
use Rattle.curp_master.proofs.Collections.{collected_moves}
use Rattle.curp_rounds.proofs.Fresh.{open_is}
use Rattle.curp_master.proofs.KeptUp.{synced_of}
use Rattle.curp_master.proofs.master.Master.collect.Goals as goal

pub returns : goal.returns
returns c =
    let its = c.self.view_is in
    let opened = ap (λ (m : Node MasterState). m.state.phase) (sym its) ∙ open_is _ c.is_open.result c.is_open.ensures c.if-not-is_open.false in
    let next = c.synced-synced.ensures ∙ synced_of c.self.invariant ∙ ap (λ (m : Node MasterState). synced m.state) its in
    let queue = c.leave.ensures.waiting ∙ ap (λ (m : Node MasterState). filter (λ (q : Queued). not (has_come c.synced-synced.result q)) m.state.queue) its in
    let ids = c.deref-2.ensures.value ∙ c.in_ok-ids.ensures ∙ ap (λ (m : Node MasterState). map (λ (q : Queued). q.id) (filter (has_come c.synced-synced.result) m.state.queue)) its in
    let sent =
    c.in_ok-sent.ensures
    ∙ ap (λ (witnesses : List NodeId). says_each (master_node c.self.inside.number) witnesses (Gc (record { epoch = c.self.inside.epoch; ids = c.deref-2.result.now }))) c.deref.ensures.value
    ∙ ap (λ (m : Node MasterState). says_each (master_node m.number) m.state.witnesses (Gc (record { epoch = m.state.epoch; ids = c.deref-2.result.now }))) its
    in
    let moves = collected_moves c.args.self.now c.synced-synced.result c.leave.new.self.waiting c.deref-2.result.now c.in_ok-sent.sent.items opened next queue ids sent in
    record {
      moves = (
        ap (λ (m : Node MasterState). record m { state = record m.state { queue = c.leave.new.self.waiting } }) its ∙ moves.0,
        c.sends.ensures ∙ moves.1,
      );
    }
