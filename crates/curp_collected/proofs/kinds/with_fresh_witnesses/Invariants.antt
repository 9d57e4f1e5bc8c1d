use Rattle.std.proofs.Common.{◌-◌, ◌^◌}
use Rattle.curp_cmd.specs.declared.node.NodeKind.TheVariants as kinds
use Rattle.curp_model.specs.Witness.{fresh_witness}
use Rattle.curp_model.specs.World.{opening}
use Rattle.curp_collected.proofs.Begun.{SoFar}
use Rattle.curp_collected.proofs.kinds.with_fresh_witnesses.Given as goal

-- the witnesses up to a number begin
abbrev pub invariant-numbers : goal.invariant-numbers
invariant-numbers l = SoFar kinds.Witness (opening l.files.header).witnesses (fresh_witness l.files.header.sets l.files.header.ways) l.files.each.items l.last l.begun.items

abbrev pub decreases-numbers : goal.decreases-numbers
decreases-numbers l = 2 ^ 32 - l.last
