use Rattle.std.proofs.Common.{length}
use Rattle.curp_slots.proofs.slots.Slots.+take.Given as goal

abbrev pub decreases-take : goal.decreases-take
decreases-take l = length l.hashes.now
