use Rattle.std.proofs.Common.{length, ap, ◌∙◌}
use Rattle.curp_master_log.specs.MasterLog.{KeptLog}
use Rattle.curp_rounds.specs.Backups.{stored_by_all}
use Rattle.curp_master.proofs.KeptUp.{settled}
use Rattle.curp_master.proofs.master.Master.acknowledge.Goals as goal

pub invariant_of-self-2 : goal.invariant_of-self-2
invariant_of-self-2 c =
    settled c.self.invariant
    (ap (λ (j : KeptLog). j.synced) c.settle.ensures.settled ∙ c.least_length-synced.ensures ∙ (λ i. stored_by_all (c.so_far.ensures i) (c.deref.ensures.value i)))
    (ap (λ (j : KeptLog). length j.entries) c.settle.ensures.settled)
