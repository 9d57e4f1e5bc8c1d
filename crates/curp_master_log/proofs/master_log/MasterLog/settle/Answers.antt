use Rattle.std.proofs.Common.{ap, ◌∙◌, ◌≤◌, nat_le, arith}
use Rattle.std.specs.List.{filter}
use Rattle.curp_tail.specs.declared.tail.TailEntry.{TailEntry}
use Rattle.curp_master_log.proofs.master_log.MasterLog.settle.Goals as goal

pub invariant_of-self : goal.invariant_of-self
invariant_of-self c =
    let on : c.self.inside.told ≤ c.max-self-inside.result = omega (arith, c.max-self-inside.ensures) in
    record {
      its_tail =
          c.synced.ensures
          ∙ ap (filter (λ (e : TailEntry). nat_le c.max-self-inside.result e.index)) c.self.invariant.its_tail
          ∙ c.tail_follows_log.ensures.forgotten c.self.inside.log.entries c.self.inside.told c.max-self-inside.result on;
      covers = omega (arith, c.max-self-inside.ensures);
      stand = c.self.invariant.stand;
    }
