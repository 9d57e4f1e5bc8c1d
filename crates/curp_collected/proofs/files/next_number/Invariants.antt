use Rattle.std.proofs.Common.{take}
use Rattle.curp_collected.specs.Files.{IsNext}
use Rattle.curp_collected.proofs.files.next_number.Given as goal

-- the next number of so many
abbrev pub invariant-loop-one : goal.invariant-loop-one
invariant-loop-one l = IsNext (take l.one-index l.files) l.kind l.above l.next
