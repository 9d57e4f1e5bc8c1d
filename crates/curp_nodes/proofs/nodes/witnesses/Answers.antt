use Rattle.curp_model.specs.Witness.{started_witness}
use Rattle.curp_nodes.proofs.Numbers.{made_more}
use Rattle.curp_nodes.proofs.nodes.witnesses.Goals as goal

pub loop-made-preserved : goal.loop-made-preserved
loop-made-preserved c =
    rw c.in_ok-push.ensures.items
    (made_more c.loop-made.nodes.items (started_witness c.args.sets c.args.ways 1) c.loop-made.made c.in_ok-witness.field-0 c.loop-made.invariant.0 c.loop-made.invariant.1 c.in_ok-witness.ensures.number c.in_ok-witness.ensures.state)
