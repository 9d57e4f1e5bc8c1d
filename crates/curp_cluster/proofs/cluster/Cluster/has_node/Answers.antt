use Rattle.std.proofs.Common.{◌≡◌, subst}
use Rattle.curp_model.specs.World.{World, has_node}
use Rattle.curp_cluster.specs.Marked.{seen}
use Rattle.curp_cluster.specs.Nodes.{NodeStates, with_nodes}
use Rattle.curp_cluster.proofs.cluster.Cluster.has_node.Goals as goal

pub returns : goal.returns
returns c =
    let i = c.self.inside in
    let was : World = seen i.marked i.stopped i.sent.lists i.history.events in
    subst (λ (w : World). c.has_node.result ≡ has_node w c.args.node) c.self.view_is
    (subst (λ (n : NodeStates). c.has_node.result ≡ has_node (with_nodes was n) c.args.node) c.nodes.ensures (c.has_node.ensures was))
