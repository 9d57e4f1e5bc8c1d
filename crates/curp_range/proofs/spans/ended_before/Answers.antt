use Rattle.std.proofs.Common.{rules}
use Rattle.std.proofs.lemmas.List.Sorted.{IsPartitionPoint-from_clause}
use Rattle.curp_range.proofs.Places.{ends_before, parted, place_from_point}
use Rattle.curp_range.proofs.spans.ended_before.Goals as goal

pub returns : goal.returns
returns c =
    let point = IsPartitionPoint-from_clause (ends_before c.args.hash) c.args.spans.now c.partition_point.result c.partition_point.ensures.partitioned (parted _ _ c.requires) (λ a r f called. search rules) in
    place_from_point _ _ _ c.partition_point.ensures.bound point
