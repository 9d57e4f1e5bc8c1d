use Rattle.std.proofs.Common.{List, take, ◌≡◌, subst, rules, arith}
use Rattle.std.proofs.lemmas.List.{take_all}
use Rattle.std.specs.BTreeMap.{get}
use Rattle.curp_base.proofs.Lists.{Each-at}
use Rattle.curp_base.specs.Words.{Each}
use Rattle.curp_cmd.specs.RequestId.{id_cmp}
use Rattle.curp_order.specs.declared.Event.{Event}
use Rattle.curp_check.proofs.Items.{next_at}
use Rattle.curp_check.proofs.Tests.{fails, yes}
use Rattle.curp_check.specs.Found.{IsFound}
use Rattle.curp_check.proofs.judge.are_placed.Goals as goal

pub loop-at-preserved : goal.loop-at-preserved
loop-at-preserved c =
    let there = c.is_placed.ensures in
    next_at (IsFound (get id_cmp c.args.places.now)) c.args.history.now c.loop-at.at there.0 there.1 c.loop-at.invariant (yes c.is_placed.result there.2 c.if-not-is_placed.false)

pub returns-then-not-is_placed : goal.returns-then-not-is_placed
returns-then-not-is_placed c =
    let there = c.is_placed.ensures in
    (λ so. absurd cc, λ each. absurd (fails c.is_placed.result there.2 c.if-not-is_placed.true (Each-at (IsFound (get id_cmp c.args.places.now)) c.args.history.now each c.loop-at.at there.0 there.1)))

pub returns : goal.returns
returns c =
    let all : take c.loop-at.at c.args.history.now ≡ c.args.history.now = take_all c.loop-at.at c.args.history.now (omega (arith, c.loop-at-test.false, c.len-at-end.ensures)) in
    (λ so. subst (λ (es : List Event). Each (IsFound (get id_cmp c.args.places.now)) es) all c.loop-at.invariant, λ each. search rules)
