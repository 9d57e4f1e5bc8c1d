use Rattle.std.proofs.Common.{◌≡◌, ◌-◌, ◌^◌, min, take}
use Rattle.curp_merge.specs.Merging.{turn_count}
use Rattle.curp_merge.proofs.count.turn_count.Given as goal

-- how many the journals so far hold
abbrev pub invariant-loop-strand : goal.invariant-loop-strand
invariant-loop-strand l = l.total ≡ min (turn_count (take l.strand-index l.strands)) (2 ^ 64 - 1)
