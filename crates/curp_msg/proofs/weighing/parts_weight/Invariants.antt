use Rattle.std.proofs.Common.{◌≡◌, ◌-◌, ◌^◌, min, map, take}
use Rattle.std.specs.List.{sum}
use Rattle.curp_msg.specs.Weight.{part_weight}
use Rattle.curp_msg.proofs.weighing.parts_weight.Given as goal

-- the weight of the partitions so far
abbrev pub invariant-loop-part : goal.invariant-loop-part
invariant-loop-part l = l.total ≡ min (sum (map part_weight (take l.part-index l.parts))) (2 ^ 64 - 1)
