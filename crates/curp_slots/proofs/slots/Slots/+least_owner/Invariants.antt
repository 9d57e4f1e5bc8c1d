use Rattle.std.proofs.Common.{length}
use Rattle.curp_slots.proofs.slots.Slots.+least_owner.Given as goal

abbrev pub decreases-least_owner : goal.decreases-least_owner
decreases-least_owner l = length l.hashes.now
