use Rattle.std.proofs.Common.{◌≡◌, ◌-◌, ◌^◌, min, take}
use Rattle.curp_merge.specs.Merging.{weight_sent}
use Rattle.curp_merge.proofs.count.weight_sent.Given as goal

-- what the journals so far sent weighs
abbrev pub invariant-loop-strand : goal.invariant-loop-strand
invariant-loop-strand l = l.total ≡ min (weight_sent (take l.strand-index l.strands)) (2 ^ 64 - 1)
