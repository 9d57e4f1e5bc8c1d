use Rattle.std.proofs.Common.{◌≡◌, ◌++◌, ◌-◌}
use Rattle.curp_gen.specs.Making.{made_steps, steps_from}
use Rattle.curp_gen.proofs.maker.made.Given as goal

-- the steps so far, and the others
abbrev pub invariant-steps : goal.invariant-steps
invariant-steps l = record {
  plan : l.maker.plan ≡ l.plan;
  made : l.maker.made ≡ l._made;
  steps : l.list.items ++ steps_from (l.plan.steps - l._made) l.maker ≡ made_steps l.plan;
}
