use Rattle.std.proofs.Common.{◌≡◌, ap, sym, subst, ◌∙◌}
use Rattle.curp_model.specs.Recovery.{MasterStage}
use Rattle.curp_msg.specs.Moved.{Moves, Node}
use Rattle.curp_msg.specs.Input as input
use Rattle.curp_nodes.specs.Machines.{master_machine}
use Rattle.curp_nodes.specs.Stages.{node_of}
use Rattle.curp_nodes.proofs.Adoptions.{recovering, recovering_moves}
use Rattle.curp_nodes.proofs.master.MasterNodeCore.on_message.Goals as goal

pub returns-in-Recovering-2 : goal.returns-in-Recovering-2
returns-in-Recovering-2 c =
    let old = c.in-Recovering.recovery in
    let new = c.on_message.new.self in
    let told = c.on_message.result in
    let m = c.args.message.now in
    let here : recovering old ≡ c.args.self.now = sym (ap node_of c.in-Recovering.is) ∙ c.self.view_is in
    record {
      moves =
          subst (λ (x : Node MasterStage). Moves x (recovering new) told (master_machine x (input.Message m))) here
          (recovering_moves old new told m (sym c.is_adopted_by.ensures ∙ c.if-is_adopted_by.false) c.on_message.ensures.moves);
    }
