use Rattle.std.proofs.Common.{rules, arith}
use Rattle.curp_anew.proofs.Pendings.{few_now, few_step}
use Rattle.curp_anew.proofs.work.has_few_pending.Goals as goal

pub loop-item-init : goal.loop-item-init
loop-item-init c = record {
  left = (λ few t. omega (arith, few t), λ few t. omega (arith, few t));
  now = omega arith;
  many_invoked = omega arith;
  many_completed = omega arith;
}

pub loop-item-preserved : goal.loop-item-preserved
loop-item-preserved c =
    let old = c.loop-item.invariant in
    let step = few_step c.loop-item.invoked c.loop-item.completed c.loop-item.item-index c.args.items.now c.item-item.result c.loop-item-test.true c.item-item.is old.now in
    record {
      left = rw (c.invocations-invoked.ensures.count, c.completions-completed.ensures.count) (λ few. old.left.0 (step.1 few), λ few. step.0 (old.left.1 few));
      now = search rules;
      many_invoked = omega (arith, old.many_invoked, c.invocations-invoked.ensures.one);
      many_completed = omega (arith, old.many_completed, c.completions-completed.ensures.one);
    }

pub returns-then-saturating_sub : goal.returns-then-saturating_sub
returns-then-saturating_sub c = (
  λ never. absurd (cc never),
  λ few.
      let old = c.loop-item.invariant in
      let step = few_step c.loop-item.invoked c.loop-item.completed c.loop-item.item-index c.args.items.now c.item-item.result c.loop-item-test.true c.item-item.is old.now in
      let now = few_now _ _ _ (step.0 (old.left.1 few)) in
      absurd (omega (arith, now, c.invocations-invoked.ensures.count, c.completions-completed.ensures.count, c.saturating_sub.ensures, c.if-saturating_sub.true)),
)
