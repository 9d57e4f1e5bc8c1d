use Rattle.std.proofs.Common.{◌≡◌, ◌≤◌, ◌+◌, ◌-◌}
use Rattle.curp_gen.specs.Making.{after}
use Rattle.curp_run.proofs.script.write_numbers.Given as goal

-- where the steps that are left lead to
abbrev pub invariant-loop : goal.invariant-loop
invariant-loop g l = record {
  counted : (l.counter ≤ l.count) × (l.maker.made + (l.count - l.counter) ≤ l.maker.plan.steps);
  leads : after (l.count - l.counter) l.maker ≡ after l.fn.count l.fn.maker;
}
