use Rattle.std.proofs.Common.{rules}
use Rattle.std.proofs.lemmas.List.Sorted.{IsPartitionPoint-from_clause}
use Rattle.curp_rifl.proofs.Runs.{parted_before_first}
use Rattle.curp_rifl.specs.Records.{is_before_first}
use Rattle.curp_rifl.proofs.records.count_before_first.Goals as goal

pub returns-clause-point : goal.returns-clause-point
returns-clause-point c =
    IsPartitionPoint-from_clause (is_before_first c.args.client c.args.first) c.args.records.now c.partition_point.result c.partition_point.ensures.partitioned (parted_before_first c.args.records.now c.requires c.args.client c.args.first)
    (λ a r f called. search rules)
