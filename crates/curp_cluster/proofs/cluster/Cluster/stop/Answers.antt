use Rattle.std.proofs.Common.{◌≡◌, true, false, ap, sym, ◌∙◌}
use Rattle.curp_cmd.specs.Node.{manager_node, same_node}
use Rattle.curp_model.specs.World.{World, has_node, is_stopped, step}
use Rattle.curp_msg.specs.declared.outcome.StepResult.TheVariants.{Gone, Manager, NoNode}
use Rattle.curp_msg.specs.declared.script.Step.TheVariants.{Stop}
use Rattle.curp_cluster.proofs.Keeping.{node_stopped, nothing_done}
use Rattle.curp_cluster.proofs.Stepping.{stops_again, stops_nobody, stops_now, stops_the_manager}
use Rattle.curp_cluster.proofs.cluster.Cluster.stop.Goals as goal

pub returns-then-not-has_node : goal.returns-then-not-has_node
returns-then-not-has_node c =
    nothing_done c.args.self.now _ _ NoNode
    (stops_nobody c.args.self.now c.args.node (sym c.has_node.ensures ∙ c.if-not-has_node.true)) c.silent.ensures

pub returns-then-eq : goal.returns-then-eq
returns-then-eq c =
    let there : has_node c.args.self.now c.args.node ≡ true = sym c.has_node.ensures ∙ c.if-not-has_node.false in
    let manager : same_node c.args.node manager_node ≡ true =
    sym (c.eq.ensures ∙ ap (same_node c.args.node) c.manager.ensures) ∙ c.if-eq.true in
    nothing_done c.args.self.now _ _ Manager (stops_the_manager c.args.self.now c.args.node there manager) c.silent-then-eq.ensures

pub returns-then-contains : goal.returns-then-contains
returns-then-contains c =
    let there : has_node c.args.self.now c.args.node ≡ true = sym c.has_node.ensures ∙ c.if-not-has_node.false in
    let manager : same_node c.args.node manager_node ≡ false =
    sym (c.eq.ensures ∙ ap (same_node c.args.node) c.manager.ensures) ∙ c.if-eq.false in
    let stopped : is_stopped c.args.self.now c.args.node ≡ true =
    ap (λ (w : World). is_stopped w c.args.node) (sym c.self.view_is) ∙ sym c.contains.ensures ∙ c.if-contains.true in
    nothing_done c.args.self.now _ _ Gone (stops_again c.args.self.now c.args.node there manager stopped) c.silent-then-contains.ensures

pub returns : goal.returns
returns c =
    let i = c.self.inside in
    let there : has_node c.args.self.now c.args.node ≡ true = sym c.has_node.ensures ∙ c.if-not-has_node.false in
    let manager : same_node c.args.node manager_node ≡ false =
    sym (c.eq.ensures ∙ ap (same_node c.args.node) c.manager.ensures) ∙ c.if-eq.false in
    let stopped : is_stopped c.args.self.now c.args.node ≡ false =
    ap (λ (w : World). is_stopped w c.args.node) (sym c.self.view_is) ∙ sym c.contains.ensures ∙ c.if-contains.false in
    let now = node_stopped i.marked i.stopped c.add.new.self i.sent.lists i.history.events c.args.self.now c.args.node
    (step c.args.self.now (Stop c.args.node)) c.self.view_is (stops_now c.args.self.now c.args.node there manager stopped) c.in_ok-add.ensures.ok in
    (now.0, c.silent-2.ensures ∙ now.1)
