use Rattle.std.proofs.Common.{◌≡◌, ◌+◌, [], ◌∷◌, List, length, length-append, ap, sym, subst, arith}
use Rattle.curp_model.specs.Witness.{WitnessState}
use Rattle.curp_msg.specs.Moved.{Node}
use Rattle.curp_nodes.specs.Nodes.{IsAhead}
use Rattle.curp_nodes.proofs.Additions.{one_ahead}
use Rattle.curp_nodes.proofs.growing.make_ahead.Goals as goal

pub loop-made-preserved : goal.loop-made-preserved
loop-made-preserved c =
    let y = c.in_ok-fresh_witness.field-0 in
    let so_far = c.loop-made.invariant in
    let number : y.number ≡ (length c.args.there.now + length c.loop-made.ahead.items) + 1 = omega (arith, c.in_ok-fresh_witness.ensures.number, so_far.made) in
    record {
      ahead = subst (λ (xs : List (Node WitnessState)). IsAhead c.args.there.now xs c.args.sets c.args.ways) (sym {A = List (Node WitnessState)} c.in_ok-push.ensures.items)
          (one_ahead c.args.there.now c.loop-made.ahead.items y c.args.sets c.args.ways so_far.ahead number c.in_ok-fresh_witness.ensures.state);
      made = omega (arith, ap length c.in_ok-push.ensures.items, length-append c.loop-made.ahead.items (y ∷ []), so_far.made);
    }
