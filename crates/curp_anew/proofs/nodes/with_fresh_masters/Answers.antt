use Rattle.curp_model.specs.Recovery.{Fresh}
use Rattle.curp_nodes.specs.Nodes.{states}
use Rattle.curp_anew.proofs.Fresh.{fresh_more, none_fresh}
use Rattle.curp_anew.proofs.nodes.with_fresh_masters.Goals as goal

pub loop-made-init : goal.loop-made-init
loop-made-init c = none_fresh c.args.masters.items Fresh c.args.there c.requires.there c.requires.numbers

pub loop-made-preserved : goal.loop-made-preserved
loop-made-preserved c =
    rw c.in_ok-push.ensures.items
    (fresh_more c.loop-made.masters.items (states c.args.masters.items) Fresh c.args.there c.loop-made.made c.fresh.result c.loop-made.invariant c.fresh.ensures.number c.fresh.ensures.state)
