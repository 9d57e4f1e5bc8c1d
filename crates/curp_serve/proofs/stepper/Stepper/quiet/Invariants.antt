use Rattle.std.proofs.Common.{◌≡◌, ◌-◌, length}
use Rattle.curp_base.specs.Words.{IsPrefix}
use Rattle.curp_law_served.specs.Served.{most_steps, quiets}
use Rattle.curp_serve.proofs.stepper.Stepper.quiet.Given as goal

-- what is to be delivered is the same, and no step is gone
abbrev pub invariant-messages : goal.invariant-messages
invariant-messages l = record {
  same : quiets l.self ≡ quiets l.initial.self;
  grows : IsPrefix l.initial.self.steps l.self.steps;
}

-- the steps that may still be made
abbrev pub decreases-messages : goal.decreases-messages
decreases-messages l = most_steps - length l.self.steps
