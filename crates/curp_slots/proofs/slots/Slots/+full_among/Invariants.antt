use Rattle.std.proofs.Common.{length}
use Rattle.curp_slots.proofs.slots.Slots.+full_among.Given as goal

abbrev pub decreases-full_among : goal.decreases-full_among
decreases-full_among l = length l.hashes.now
