use Rattle.curp_slots.proofs.Apart.{least_apart}
use Rattle.curp_slots.proofs.started.StartedWitness.freeze.Goals as goal

pub by_least_hash-requires : goal.by_least_hash-requires
by_least_hash-requires c = least_apart c.self.inside.slots c.self.inside.register c.self.invariant
