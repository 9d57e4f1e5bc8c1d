use Rattle.std.proofs.Common.{length}
use Rattle.curp_slots.proofs.started.+mark_owners.Given as goal

abbrev pub decreases-mark_owners : goal.decreases-mark_owners
decreases-mark_owners l = length l.hashes.now
