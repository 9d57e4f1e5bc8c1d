use Rattle.curp_model.specs.Witness.{fresh_witness}
use Rattle.curp_nodes.specs.Nodes.{states}
use Rattle.curp_anew.proofs.Fresh.{fresh_more, none_fresh}
use Rattle.curp_anew.proofs.nodes.with_fresh_witnesses.Goals as goal

pub loop-made-init : goal.loop-made-init
loop-made-init c = none_fresh c.args.witnesses.items (fresh_witness c.args.header.now.sets c.args.header.now.ways) c.args.there c.requires.there c.requires.numbers

pub loop-made-preserved : goal.loop-made-preserved
loop-made-preserved c =
    rw c.in_ok-push.ensures.items
    (fresh_more c.loop-made.witnesses.items (states c.args.witnesses.items) (fresh_witness c.args.header.now.sets c.args.header.now.ways) c.args.there c.loop-made.made c.in_ok-fresh_witness.field-0 c.loop-made.invariant c.in_ok-fresh_witness.ensures.number c.in_ok-fresh_witness.ensures.state)
