use Rattle.std.proofs.Common.{rules}
use Rattle.std.proofs.lemmas.List.Sorted.{IsPartitionPoint-from_clause}
use Rattle.curp_rifl.proofs.Runs.{parted_up_to}
use Rattle.curp_rifl.specs.Records.{is_up_to}
use Rattle.curp_rifl.proofs.records.count_up_to.Goals as goal

pub returns-clause-point : goal.returns-clause-point
returns-clause-point c =
    IsPartitionPoint-from_clause (is_up_to c.args.client) c.args.records.now c.partition_point.result c.partition_point.ensures.partitioned (parted_up_to c.args.records.now c.requires c.args.client)
    (λ a r f called. search rules)
