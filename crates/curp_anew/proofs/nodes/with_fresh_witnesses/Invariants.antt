use Rattle.curp_model.specs.Witness.{fresh_witness}
use Rattle.curp_nodes.specs.Nodes.{states}
use Rattle.curp_anew.proofs.Fresh.{AreFresh}
use Rattle.curp_anew.proofs.nodes.with_fresh_witnesses.Given as goal

-- so many fresh ones are made
abbrev pub invariant-loop-made : goal.invariant-loop-made
invariant-loop-made l = AreFresh l.witnesses.items (states l.fn.witnesses.items) (fresh_witness l.header.sets l.header.ways) l.there l.made
