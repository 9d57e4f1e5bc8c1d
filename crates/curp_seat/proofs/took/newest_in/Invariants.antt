use Rattle.std.proofs.Common.{◌≡◌, max, drop}
use Rattle.curp_seat.specs.Taking.{newest_in}
use Rattle.curp_seat.proofs.took.newest_in.Given as goal

-- the newest so far, or of those that are left
abbrev pub invariant-loop-part : goal.invariant-loop-part
invariant-loop-part l = max l.newest (newest_in (drop l.part-index l.parts)) ≡ newest_in l.parts
