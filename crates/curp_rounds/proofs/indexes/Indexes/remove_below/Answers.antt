use Rattle.std.proofs.Common.{rules, ◌∙◌}
use Rattle.std.proofs.lemmas.List.Sorted.{IsNonDecreasingBy-drop, IsPartitionPoint-from_clause, IsPartitionedBy-ltb}
use Rattle.curp_rounds.proofs.Places.{is_below}
use Rattle.curp_rounds.proofs.Prefixes.{back_fails}
use Rattle.curp_rounds.proofs.indexes.Indexes.remove_below.Goals as goal

pub invariant_of-self : goal.invariant_of-self
invariant_of-self c =
    rw c.drop_run.ensures.items
    (IsNonDecreasingBy-drop (λ n. n) c.partition_point-count.result c.self.inside.numbers.items c.self.invariant)

pub returns : goal.returns
returns c =
    let point =
    IsPartitionPoint-from_clause (is_below c.args.limit) c.deref.result.now c.partition_point-count.result c.partition_point-count.ensures.partitioned
    (rw c.deref.ensures.value (IsPartitionedBy-ltb (λ n. n) c.self.inside.numbers.items c.args.limit c.self.invariant)) (λ a r f called. search rules)
    in
    rw (← c.self.view_is)
    (c.drop_run.ensures.items
    ∙ back_fails (is_below c.args.limit) c.self.inside.numbers.items c.partition_point-count.result (rw c.deref.ensures.value at point))
