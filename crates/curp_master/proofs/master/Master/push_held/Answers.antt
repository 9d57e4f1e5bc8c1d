use Rattle.std.proofs.Common.{[], ◌∷◌, ap, refl}
use Rattle.curp_model.specs.Master.{MasterState}
use Rattle.curp_msg.specs.Moved.{Node}
use Rattle.curp_cmd.specs.declared.entry.Entry.TheVariants.{Op}
use Rattle.curp_master.proofs.Begun.{next_of}
use Rattle.curp_master.proofs.KeptUp.{later, pushed}
use Rattle.curp_master.proofs.master.Master.push_held.Goals as goal

pub invariant_of-self-2 : goal.invariant_of-self-2
invariant_of-self-2 c =
    later (pushed c.self.invariant _ c.args.is_free c.in_ok-push_held.ensures.kept refl) (next_of c.args.self.now (Op c.args.request.now c.args.request.now.first ∷ []) c.in_ok-round.ensures c.in-Some.is (ap (λ (n : Node MasterState). n.state.round) c.self.view_is))
