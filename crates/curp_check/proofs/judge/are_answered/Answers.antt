use Rattle.std.proofs.Common.{List, take, ◌≡◌, subst, rules, arith}
use Rattle.std.proofs.lemmas.List.{take_all}
use Rattle.std.specs.BTreeMap.{get}
use Rattle.curp_base.proofs.Lists.{Each-at}
use Rattle.curp_base.specs.Words.{Each}
use Rattle.curp_cmd.specs.RequestId.{id_cmp}
use Rattle.curp_order.specs.declared.Event.{Event}
use Rattle.curp_check.proofs.Items.{next_at}
use Rattle.curp_check.proofs.Tests.{fails, yes}
use Rattle.curp_check.specs.Found.{HasAnswerOfPlace}
use Rattle.curp_check.proofs.judge.are_answered.Goals as goal

pub loop-at-preserved : goal.loop-at-preserved
loop-at-preserved c =
    let there = c.is_answered.ensures in
    next_at (HasAnswerOfPlace (get id_cmp c.args.places.now) c.args.answers.now) c.args.history.now c.loop-at.at there.0 there.1 c.loop-at.invariant (yes c.is_answered.result there.2 c.if-not-is_answered.false)

pub returns-then-not-is_answered : goal.returns-then-not-is_answered
returns-then-not-is_answered c =
    let there = c.is_answered.ensures in
    (λ so. absurd cc, λ each. absurd (fails c.is_answered.result there.2 c.if-not-is_answered.true (Each-at (HasAnswerOfPlace (get id_cmp c.args.places.now) c.args.answers.now) c.args.history.now each c.loop-at.at there.0 there.1)))

pub returns : goal.returns
returns c =
    let all : take c.loop-at.at c.args.history.now ≡ c.args.history.now = take_all c.loop-at.at c.args.history.now (omega (arith, c.loop-at-test.false, c.len-at-end.ensures)) in
    (λ so. subst (λ (es : List Event). Each (HasAnswerOfPlace (get id_cmp c.args.places.now) c.args.answers.now) es) all c.loop-at.invariant, λ each. search rules)
