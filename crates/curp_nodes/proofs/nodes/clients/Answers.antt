use Rattle.std.proofs.Common.{ap, ◌∙◌}
use Rattle.curp_model.specs.Client.{fresh_client}
use Rattle.curp_nodes.proofs.Numbers.{made_more}
use Rattle.curp_nodes.proofs.nodes.clients.Goals as goal

pub loop-made-preserved : goal.loop-made-preserved
loop-made-preserved c =
    rw c.in_ok-push.ensures.items
    (made_more c.loop-made.nodes.items (fresh_client c.args.header.now.fast c.args.header.now.protocol c.args.config.now) c.loop-made.made c.new.result c.loop-made.invariant.0 c.loop-made.invariant.1 c.new.ensures.number
    (c.new.ensures.state ∙ ap (fresh_client c.args.header.now.fast c.args.header.now.protocol) c.in_ok-config.ensures))
