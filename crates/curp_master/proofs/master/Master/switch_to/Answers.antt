use Rattle.std.proofs.Common.{false, [], ap}
use Rattle.curp_model.specs.Master.{MasterState, Switching}
use Rattle.curp_msg.specs.Moved.{Node}
use Rattle.curp_master.specs.Rounds.{in_phase}
use Rattle.curp_master.proofs.Begun.{next_of}
use Rattle.curp_master.proofs.KeptUp.{later}
use Rattle.curp_master.proofs.master.Master.switch_to.Goals as goal

pub invariant_of-self : goal.invariant_of-self
invariant_of-self c =
    let phase = Switching (record {
      version = c.args.prepare.now.version;
      backups = c.in_ok-copy.field-0;
      witnesses = c.in_ok-copy-2.field-0;
      round = c.in-Some.number;
      prepared = false;
    }) in
    later c.self.invariant (next_of (in_phase c.args.self.now phase) [] c.in_ok-round.ensures c.in-Some-2.is (ap (λ (n : Node MasterState). n.state.round) c.self.view_is))
