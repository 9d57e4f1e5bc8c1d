use Rattle.std.proofs.Common.{length, subst, ap}
use Rattle.curp_disk.specs.Disk.{Elapses}
use Rattle.curp_disk.specs.Calls.{LeftNow, LeftSince}
use Rattle.curp_disk.proofs.memory.MemoryDiskDisk.sync.Goals as goal

pub returns-in-Goes-clause-time : goal.returns-in-Goes-clause-time
returns-in-Goes-clause-time c =
    subst (λ p. Elapses (length p.calls) (length c.keep.new.self.calls) (LeftSince p) (LeftSince c.keep.new.self) (LeftNow c.keep.new.self)) (ap (λ d. d.played) c.self.view_is) c.keep.ensures.time
