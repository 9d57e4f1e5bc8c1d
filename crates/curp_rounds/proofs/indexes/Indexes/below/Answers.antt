use Rattle.std.proofs.Common.{rules}
use Rattle.std.proofs.lemmas.List.Sorted.{IsPartitionPoint-from_clause, IsPartitionedBy-ltb}
use Rattle.curp_rounds.proofs.Places.{is_below}
use Rattle.curp_rounds.proofs.Prefixes.{front_passes}
use Rattle.curp_rounds.proofs.indexes.Indexes.below.Goals as goal

pub returns : goal.returns
returns c =
    let point =
    IsPartitionPoint-from_clause (is_below c.args.limit) c.deref.result.now c.partition_point-count.result c.partition_point-count.ensures.partitioned
    (rw c.deref.ensures.value (IsPartitionedBy-ltb (λ n. n) c.self.inside.numbers.items c.args.limit c.self.invariant)) (λ a r f called. search rules)
    in
    rw (← c.self.view_is) (rw c.as_slice.ensures (front_passes (is_below c.args.limit) c.self.inside.numbers.items c.partition_point-count.result (rw c.deref.ensures.value at point)))
