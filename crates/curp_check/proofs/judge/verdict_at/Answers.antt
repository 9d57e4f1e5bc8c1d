use Rattle.std.proofs.Common.{◌∙◌, List, sym, subst}
use Rattle.std.specs.BTreeMap.{get}
use Rattle.curp_base.specs.Words.{Each}
use Rattle.curp_cmd.specs.RequestId.{id_cmp}
use Rattle.curp_cmd.specs.declared.command.Answer.{Answer}
use Rattle.curp_check.specs.Found.{HasAnswerOfPlace}
use Rattle.curp_check.proofs.Verdicts.{answered_from_each, each_from_answered, each_from_stand, found_from_in_time, fourth_broken, in_time_from_found, is_order, second_broken, stand_from_each, third_broken}
use Rattle.curp_check.proofs.Tests.{fails, yes}
use Rattle.curp_check.proofs.judge.verdict_at.Goals as goal

pub returns-then-not-are_placed : goal.returns-then-not-are_placed
returns-then-not-are_placed c =
    let events = c.args.history.now in
    let order = c.args.order.now in
    let find = get id_cmp c.args.places.now in
    second_broken events order c.requires.invoked
    (λ holds. fails c.are_placed.result c.are_placed.ensures c.if-not-are_placed.true (each_from_stand events order find c.requires.found holds))

pub returns-then-not-are_answered : goal.returns-then-not-are_answered
returns-then-not-are_answered c =
    let events = c.args.history.now in
    let order = c.args.order.now in
    let find = get id_cmp c.args.places.now in
    let stand = stand_from_each events order find c.requires.found (yes c.are_placed.result c.are_placed.ensures c.if-not-are_placed.false) in
    third_broken events order c.requires.invoked stand
    (λ holds. fails c.are_answered.result c.are_answered.ensures c.if-not-are_answered.true
    (subst (λ (given : List Answer). Each (HasAnswerOfPlace find given) events) (sym (c.deref.ensures.value ∙ c.in_ok-answers.ensures)) (each_from_answered events order find c.requires.found holds)))

pub returns-then-not-are_in_time : goal.returns-then-not-are_in_time
returns-then-not-are_in_time c =
    let events = c.args.history.now in
    let order = c.args.order.now in
    let find = get id_cmp c.args.places.now in
    let stand = stand_from_each events order find c.requires.found (yes c.are_placed.result c.are_placed.ensures c.if-not-are_placed.false) in
    let each = yes c.are_answered.result c.are_answered.ensures c.if-not-are_answered.false in
    let answered = answered_from_each events order find c.requires.found
    (subst (λ (given : List Answer). Each (HasAnswerOfPlace find given) events) (c.deref.ensures.value ∙ c.in_ok-answers.ensures) each) in
    fourth_broken events order c.requires.invoked stand answered
    (λ holds. fails c.are_in_time.result c.are_in_time.ensures c.if-not-are_in_time.true (found_from_in_time events order find c.requires.found holds))

pub returns : goal.returns
returns c =
    let events = c.args.history.now in
    let order = c.args.order.now in
    let find = get id_cmp c.args.places.now in
    let stand = stand_from_each events order find c.requires.found (yes c.are_placed.result c.are_placed.ensures c.if-not-are_placed.false) in
    let each = yes c.are_answered.result c.are_answered.ensures c.if-not-are_answered.false in
    let answered = answered_from_each events order find c.requires.found
    (subst (λ (given : List Answer). Each (HasAnswerOfPlace find given) events) (c.deref.ensures.value ∙ c.in_ok-answers.ensures) each) in
    is_order events order c.requires.invoked stand answered
    (in_time_from_found events order find c.requires.found (yes c.are_in_time.result c.are_in_time.ensures c.if-not-are_in_time.false))
