use Rattle.std.proofs.Common.{List, take, ◌≡◌, subst, rules, arith}
use Rattle.std.proofs.lemmas.List.{take_all}
use Rattle.curp_base.proofs.Lists.{Each-at}
use Rattle.curp_base.specs.Words.{Each}
use Rattle.curp_order.specs.Order.{Asked}
use Rattle.curp_check.proofs.Items.{next_at}
use Rattle.curp_check.proofs.Tests.{fails, yes}
use Rattle.curp_check.specs.Found.{IsInvoked}
use Rattle.curp_check.proofs.judge.all_invoked.Goals as goal

pub loop-at-preserved : goal.loop-at-preserved
loop-at-preserved c =
    next_at (IsInvoked c.args.history.now) c.args.order.now c.loop-at.at c.asked-command.result c.asked-command.ensures c.loop-at.invariant
    (yes c.was_invoked.result c.was_invoked.ensures c.if-not-was_invoked.false)

pub returns-then-not-was_invoked : goal.returns-then-not-was_invoked
returns-then-not-was_invoked c = (
  λ so. absurd cc,
  λ each. absurd (fails c.was_invoked.result c.was_invoked.ensures c.if-not-was_invoked.true
      (Each-at (IsInvoked c.args.history.now) c.args.order.now each c.loop-at.at c.asked-command.result c.asked-command.ensures)),
)

pub returns : goal.returns
returns c =
    let all : take c.loop-at.at c.args.order.now ≡ c.args.order.now = take_all c.loop-at.at c.args.order.now (omega (arith, c.loop-at-test.false, c.len-at-end.ensures)) in
    (λ so. subst (λ (xs : List Asked). Each (IsInvoked c.args.history.now) xs) all c.loop-at.invariant, λ each. search rules)
