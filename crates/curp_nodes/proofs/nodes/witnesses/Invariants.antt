use Rattle.std.proofs.Common.{◌≡◌, replicate}
use Rattle.curp_model.specs.Witness.{started_witness}
use Rattle.curp_nodes.specs.Nodes.{HasNumbers, states}
use Rattle.curp_nodes.proofs.nodes.witnesses.Given as goal

-- so many are made, with their numbers
abbrev pub invariant-loop-made : goal.invariant-loop-made
invariant-loop-made l = (states l.nodes.items ≡ replicate l.made (started_witness l.sets l.ways 1)) × HasNumbers l.nodes.items
