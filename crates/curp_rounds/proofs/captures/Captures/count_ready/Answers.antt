use Rattle.std.proofs.Common.{rules}
use Rattle.std.proofs.lemmas.List.Sorted.{IsPartitionPoint-from_clause}
use Rattle.curp_model.specs.Master.{Captured}
use Rattle.curp_rounds.specs.Backups.{is_within}
use Rattle.curp_rounds.proofs.Prefixes.{IsEnd, back_fails, front_passes}
use Rattle.curp_rounds.proofs.Waiting.{ready_parted}
use Rattle.curp_rounds.proofs.captures.Captures.count_ready.Goals as goal

end : (c : goal.After-partition_point) → IsEnd (λ (x : Captured). is_within c.args.reach x.length x.round) c.self.inside.waiting.items c.partition_point.result
end c =
    IsPartitionPoint-from_clause (λ (x : Captured). is_within c.args.reach x.length x.round) c.self.inside.waiting.items c.partition_point.result c.partition_point.ensures.partitioned
    (ready_parted c.self.inside.waiting.items c.args.reach c.self.invariant.in_order) (λ a r f called. search rules)

pub returns-clause-ready : goal.returns-clause-ready
returns-clause-ready c =
    rw (← c.self.view_is) (front_passes (λ (x : Captured). is_within c.args.reach x.length x.round) c.self.inside.waiting.items c.partition_point.result (end c))

pub returns-clause-others : goal.returns-clause-others
returns-clause-others c =
    rw (← c.self.view_is) (back_fails (λ (x : Captured). is_within c.args.reach x.length x.round) c.self.inside.waiting.items c.partition_point.result (end c))
