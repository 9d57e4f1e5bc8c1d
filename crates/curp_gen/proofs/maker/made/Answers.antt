use Rattle.std.proofs.Common.{◌≡◌, ◌+◌, ◌-◌, ℕ, ap, ◌∙◌, arith}
use Rattle.curp_gen.specs.Making.{Making, with_next}
use Rattle.curp_gen.proofs.Made.{next_made, next_plan, no_steps, steps_go_on}
use Rattle.curp_gen.proofs.maker.made.Goals as goal

pub steps-preserved : goal.steps-preserved
steps-preserved c =
    let is = c.steps.invariant in
    let next : c.next_step.new.self ≡ with_next c.steps.maker = c.in_ok-step.ensures.state in
    record {
      plan = ap (λ (m : Making). m.plan) next ∙ next_plan c.steps.maker ∙ is.plan;
      made = ap (λ (m : Making). m.made) next ∙ next_made c.steps.maker ∙ ap (λ (n : ℕ). n + 1) is.made;
      steps = rw c.in_ok-push.ensures.items
          (steps_go_on c.steps.list.items c.args.plan.now.steps c.steps._made c.steps.maker c.next_step.new.self _ c.in_ok-step.step
          c.steps-test.true c.in_ok-step.ensures.step next is.steps);
    }

pub returns-clause-steps : goal.returns-clause-steps
returns-clause-steps c =
    no_steps c.steps.list.items (c.args.plan.now.steps - c.steps._made) c.steps.maker _ (omega arith) c.steps.invariant.steps
