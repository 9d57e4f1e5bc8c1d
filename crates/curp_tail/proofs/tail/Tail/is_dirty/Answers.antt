use Rattle.std.proofs.Common.{◌∙◌}
use Rattle.curp_tail.proofs.Kept.{dirty_by_name, dirty_by_range}
use Rattle.curp_tail.proofs.tail.Tail.is_dirty.Goals as goal

pub returns-then-contains_key : goal.returns-then-contains_key
returns-then-contains_key c =
    rw (← c.self.view_is)
    (dirty_by_name c.self.inside.entries.items c.args.hash _ c.contains_key.result (c.self.invariant.lasts c.args.hash) c.contains_key.ensures c.if-contains_key.true)

pub returns-else-contains_key : goal.returns-else-contains_key
returns-else-contains_key c =
    rw (← c.self.view_is)
    (dirty_by_range c.self.inside.entries.items c.args.hash _ c.deref.result.now c.contains_key.result c.covers.result
    (c.self.invariant.lasts c.args.hash) (c.deref.ensures.value ∙ c.self.invariant.ranges_are) c.contains_key.ensures c.if-contains_key.false c.covers.ensures)
