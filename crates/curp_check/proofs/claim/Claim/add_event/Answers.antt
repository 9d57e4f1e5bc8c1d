use Rattle.std.proofs.Common.{◌∙◌, arith, sym, ap}
use Rattle.std.proofs.lemmas.Bool.Decides.{nat_tests}
use Rattle.curp_check.proofs.Stages.{followed_or_not, may_not, no_items, not_taken}
use Rattle.curp_check.specs.Claim.{Claimed}
use Rattle.curp_check.specs.Stages.{stage_after, stage_of}
use Rattle.curp_check.proofs.claim.Claim.add_event.Goals as goal

pub returns-in_default-clause-refused : goal.returns-in_default-clause-refused
returns-in_default-clause-refused c =
    let events = c.self.inside.history in
    let order = c.self.inside.order in
    let claim : Claimed = record { events = events; order = order } in
    let e = c.args.event.now in
    let none = sym (c.stage_after.ensures ∙ ap (stage_after e) (c.copied.ensures ∙ c.get.ensures.value ∙ c.self.invariant.stage _ ∙ ap (stage_of events) c.request_of-id.ensures)) ∙ c.in_default.is in
    rw (← c.self.view_is) (not_taken claim e (no_items order (grind (arith, nat_tests, c.is_empty.ensures, c.if-not-is_empty.false))) (may_not events e c.self.invariant.is_history none))

pub invariant_of-self : goal.invariant_of-self
invariant_of-self c =
    let events = c.self.inside.history in
    let e = c.args.event.now in
    let some = sym (c.stage_after.ensures ∙ ap (stage_after e) (c.copied.ensures ∙ c.get.ensures.value ∙ c.self.invariant.stage _ ∙ ap (stage_of events) c.request_of-id.ensures)) ∙ c.in-Some.is in
    followed_or_not c.push_event.result c.self.inside.stages c.push_event.new.stages events c.push_event.new.history e c.in-Some.stage c.self.invariant some
    c.push_event.ensures.history c.push_event.ensures.stages c.push_event.ensures.history_stays c.push_event.ensures.stages_stay

pub invariant_of-self-2 : goal.invariant_of-self-2
invariant_of-self-2 c =
    let events = c.self.inside.history in
    let e = c.args.event.now in
    let some = sym (c.stage_after.ensures ∙ ap (stage_after e) (c.copied.ensures ∙ c.get.ensures.value ∙ c.self.invariant.stage _ ∙ ap (stage_of events) c.request_of-id.ensures)) ∙ c.in-Some.is in
    followed_or_not c.push_event.result c.self.inside.stages c.push_event.new.stages events c.push_event.new.history e c.in-Some.stage c.self.invariant some
    c.push_event.ensures.history c.push_event.ensures.stages c.push_event.ensures.history_stays c.push_event.ensures.stages_stay
