use Rattle.std.proofs.Common.{not, drop, ap, ◌∙◌}
use Rattle.std.proofs.lemmas.Result.{IfOk-weaker}
use Rattle.curp_model.specs.Log.{is_touched}
use Rattle.curp_model.specs.Master.{MasterState, is_clean}
use Rattle.curp_msg.specs.Moved.{Node}
use Rattle.curp_master.proofs.KeptUp.{synced_of}
use Rattle.curp_master.proofs.master.Master.is_clean.Goals as goal

pub returns : goal.returns
returns c =
    IfOk-weaker c.is_clean.result _ _ (λ clean told. told
    ∙ (λ i. not (is_touched (drop (synced_of c.self.invariant i) c.self.inside.master_log.kept.entries) c.args.command.now))
    ∙ ap (λ (node : Node MasterState). is_clean node.state c.args.command.now) c.self.view_is)
    c.is_clean.ensures
