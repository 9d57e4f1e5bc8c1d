use Rattle.std.proofs.Common.{arith}
use Rattle.curp_slots.proofs.Taken.{fresh_table}
use Rattle.curp_slots.proofs.slots.Slots.new.Goals as goal

pub invariant_of-result : goal.invariant_of-result
invariant_of-result c = rw c.loop.invariant (fresh_table c.args.ways c.loop.counter (omega (arith, c.loop-test.false)) (omega arith) c.requires.some_ways c.requires.ways_fit)
