use Rattle.curp_config.proofs.Entries.{moved_numbered}
use Rattle.curp_config.proofs.manager.Manager.on_given.Goals as goal

pub invariant_of-self-2 : goal.invariant_of-self-2
invariant_of-self-2 c = rw c.in_ok-move_range.ensures.ok (moved_numbered c.self.inside.shape.parts c.in-Some.migration c.self.inside.config.parts c.self.invariant)
