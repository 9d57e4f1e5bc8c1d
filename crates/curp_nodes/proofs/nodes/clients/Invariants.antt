use Rattle.std.proofs.Common.{◌≡◌, replicate}
use Rattle.curp_model.specs.Client.{fresh_client}
use Rattle.curp_nodes.specs.Nodes.{HasNumbers, states}
use Rattle.curp_nodes.proofs.nodes.clients.Given as goal

-- so many are made, with their numbers
abbrev pub invariant-loop-made : goal.invariant-loop-made
invariant-loop-made l = (states l.nodes.items ≡ replicate l.made (fresh_client l.header.fast l.header.protocol l.config)) × HasNumbers l.nodes.items
