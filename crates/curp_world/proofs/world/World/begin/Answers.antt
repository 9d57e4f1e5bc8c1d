use Rattle.std.proofs.Common.{sym, ◌∙◌}
use Rattle.curp_world.proofs.Runs.{in_order, reached_opening}
use Rattle.curp_world.proofs.world.World.begin.Goals as goal

pub new-requires : goal.new-requires
new-requires c = in_order c.args.header.now (sym c.bad_field.ensures ∙ c.in_default.is)

pub invariant_of-result : goal.invariant_of-result
invariant_of-result c = reached_opening c.args.header.now c.in-Ok.cluster (in_order c.args.header.now (sym c.bad_field.ensures ∙ c.in_default.is)) c.in-Ok.ensures
