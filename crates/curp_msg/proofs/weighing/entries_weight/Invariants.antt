use Rattle.std.proofs.Common.{◌≡◌, ◌-◌, ◌^◌, min, take}
use Rattle.curp_msg.specs.Weight.{entries_weight}
use Rattle.curp_msg.proofs.weighing.entries_weight.Given as goal

-- the weight of the entries so far
abbrev pub invariant-loop-entry : goal.invariant-loop-entry
invariant-loop-entry l = l.total ≡ min (entries_weight (take l.entry-index l.entries)) (2 ^ 64 - 1)
