use Rattle.std.proofs.Common.{◌*◌, arith, rules}
use Rattle.curp_slots.proofs.Apart.{takes_nothing}
use Rattle.curp_slots.proofs.started.StartedWitness.new.Goals as goal

pub invariant_of-result : goal.invariant_of-result
invariant_of-result c =
    rw (c.in_ok-slots.ensures, c.in_ok-register.ensures)
    (takes_nothing c.args.ways c.args.sets (c.args.sets * c.args.ways) (search rules) (omega arith))
