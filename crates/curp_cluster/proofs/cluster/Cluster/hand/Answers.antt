use Rattle.std.proofs.Common.{◌≡◌, ◌++◌, ◌+◌, List, true, length, ap, rules, sym, ◌∙◌, subst}
use Rattle.curp_base.specs.Words.{all_of}
use Rattle.curp_model.specs.World.{Stepped, World, completion, has_node, refused, with_batch}
use Rattle.curp_msg.specs.Input.{Local}
use Rattle.curp_msg.specs.declared.message.Message.{Message}
use Rattle.curp_msg.specs.declared.outcome.StepResult.TheVariants.{Done, Refused}
use Rattle.curp_order.specs.Recorded.{invocation}
use Rattle.curp_order.specs.declared.Event.{Event}
use Rattle.curp_cluster.specs.Marked.{seen}
use Rattle.curp_cluster.proofs.Keeping.{as_before, nothing_done, nothing_kept, order_kept, seen_same}
use Rattle.curp_cluster.proofs.Stepping.{barred, passed}
use Rattle.curp_cluster.proofs.cluster.Cluster.hand.Goals as goal

pub give-requires : goal.give-requires
give-requires c =
    let i = c.self.inside in
    let was : World = seen i.marked i.stopped i.sent.lists i.history.events in
    let there = subst (λ (w : World). has_node w c.args.to ≡ true) (sym c.self.view_is) (passed c.args.self.now c.args.to (sym c.in_default.ensures)) in
    record { there = (was, there) }

pub returns : goal.returns
returns c =
    let i = c.self.inside in
    let done = c.in_ok-refused.field-0 in
    let sends = c.keep.ensures.sent ∙ ap (λ (lists : List (List Message)). with_batch lists done.sent) c.reserve.ensures.lists in
    let records = c.keep.ensures.history
    ∙ ap (λ (events : List Event). (events ++ invocation c.invoked_by-invoked.result) ++ completion done.completed) c.reserve-2.ensures.events in
    let outcome = c.keep.ensures.outcome ∙ ap (λ (lists : List (List Message)).
    record { result = Done; first = length (all_of lists) + 1; sent = length done.sent; completed = done.completed }) c.reserve.ensures.lists in
    order_kept i.marked c.give.new.self i.stopped i.sent.lists c.keep.new.sent.lists i.history.events c.keep.new.history.events c.args.self.now
    c.args.to c.args.order.now done c.invoked_by-invoked.result c.keep.result
    c.in_ok-refused.ensures c.self.view_is (sym c.in_default.ensures) c.requires c.if-refused-ne0.false c.invoked_by-invoked.ensures sends records outcome

-- where something is in the way, where the node refuses, and by an error, all is as it was
pub returns-in-Some : goal.returns-in-Some
returns-in-Some c =
    nothing_done c.args.self.now _ _ c.in-Some.why (barred c.args.self.now c.args.to (Local c.args.order.now) c.in-Some.why (sym c.in-Some.ensures)) c.silent.ensures

pub returns-in_err-refused : goal.returns-in_err-refused
returns-in_err-refused c =
    let i = c.self.inside in
    let was : World = seen i.marked i.stopped i.sent.lists i.history.events in
    as_before c.from_residual-in_err-refused.result c.in_err-refused.field-0.0 _ _ _ (search rules)
    (seen_same i.marked c.give.new.self i.stopped i.sent.lists c.reserve.new.self.lists i.history.events c.reserve-2.new.self.events c.args.self.now
    (c.in_err-refused.ensures was) c.reserve.ensures.lists c.reserve-2.ensures.events c.self.view_is)

pub returns-then-refused-ne0 : goal.returns-then-refused-ne0
returns-then-refused-ne0 c =
    let i = c.self.inside in
    let done = c.in_ok-refused.field-0 in
    let none = nothing_kept i.marked c.give.new.self i.stopped i.sent.lists c.reserve.new.self.lists i.history.events c.reserve-2.new.self.events c.args.self.now
    c.args.to (Local c.args.order.now) done c.in_ok-refused.ensures c.self.view_is (sym c.in_default.ensures) c.if-refused-ne0.true c.reserve.ensures.lists c.reserve-2.ensures.events in (
      none.0 ∙ sym (ap (λ (x : Stepped). x.world) none.1),
      c.silent-then-refused-ne0.ensures ∙ ap (λ (w : World). (refused w (Refused done.refused)).outcome) none.0
          ∙ sym (ap (λ (x : Stepped). x.outcome) none.1),
    )
