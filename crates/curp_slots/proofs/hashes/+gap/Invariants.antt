use Rattle.std.proofs.Common.{length}
use Rattle.curp_slots.proofs.hashes.+gap.Given as goal

abbrev pub decreases-gap : goal.decreases-gap
decreases-gap l = length l.hashes.now
