use Rattle.curp_model.specs.World.{opening_master, shape_of}
use Rattle.curp_nodes.proofs.Numbers.{named_length}
use Rattle.curp_anew.proofs.Counts.{long_states}
use Rattle.curp_anew.proofs.nodes.masters.Goals as goal

pub with_fresh_masters-requires-clause-there : goal.with_fresh_masters-requires-clause-there
with_fresh_masters-requires-clause-there c =
    let h = c.args.header.now in
    long_states c.in_ok-masters.masters.items _ h.parts c.in_ok-masters.ensures.states (named_length (opening_master (shape_of h)) h.parts)
