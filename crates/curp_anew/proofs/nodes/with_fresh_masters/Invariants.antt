use Rattle.curp_model.specs.Recovery.{Fresh}
use Rattle.curp_nodes.specs.Nodes.{states}
use Rattle.curp_anew.proofs.Fresh.{AreFresh}
use Rattle.curp_anew.proofs.nodes.with_fresh_masters.Given as goal

-- so many fresh ones are made
abbrev pub invariant-loop-made : goal.invariant-loop-made
invariant-loop-made l = AreFresh l.masters.items (states l.fn.masters.items) Fresh l.there l.made
