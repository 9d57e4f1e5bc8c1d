use Rattle.std.proofs.Common.{◌≡◌, arith, length}
use Rattle.curp_gen.proofs.Masters.{opening_masters}
use Rattle.curp_words.specs.Plan.{header_of}
use Rattle.curp_gen.proofs.maker.Maker.new.Goals as goal

pub new-requires : goal.new-requires
new-requires c = rw c.header.ensures.header c.requires.header

-- each partition of a plan has a master
pub invariant_of-result : goal.invariant_of-result
invariant_of-result c =
    let parts : length c.in_ok-new.field-0.masters ≡ c.args.plan.now.parts
    = rw (c.in_ok-new.ensures, c.header.ensures.header) (opening_masters (header_of c.args.plan.now)) in
    record {
      plan = c.requires;
      masters = omega (arith, parts, c.requires.header.parts);
      made = omega arith;
      recoveries = omega arith;
      refused = omega arith;
      completed = omega arith;
    }
