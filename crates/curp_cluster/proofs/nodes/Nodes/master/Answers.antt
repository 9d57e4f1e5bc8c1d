use Rattle.std.proofs.Common.{List, ap, ◌∙◌}
use Rattle.curp_base.specs.Words.{numbered}
use Rattle.curp_model.specs.Recovery.{MasterStage}
use Rattle.curp_msg.specs.Moved.{Node}
use Rattle.curp_cluster.specs.Nodes.{NodeStates}
use Rattle.curp_cluster.proofs.ByKind.{seen_master}
use Rattle.curp_cluster.proofs.nodes.Nodes.master.Goals as goal

pub returns : goal.returns
returns c =
    seen_master c.self.inside.masters.items _ c.args.number c.numbered.result (ap (λ (n : NodeStates). n.masters) c.self.view_is)
    (c.numbered.ensures ∙ ap (λ (items : List (Node MasterStage)). numbered items c.args.number) c.deref.ensures.value)
