use Rattle.std.proofs.Common.{◌≡◌, ℕ, ◌++◌, ◌+◌, [], List, None, Ok, Some, true, length, ap, rules, sym, ◌∙◌, subst}
use Rattle.std.specs.Option.{option_map}
use Rattle.std.specs.declared.alloc.AllocError.{AllocError}
use Rattle.curp_base.specs.Words.{all_of, numbered}
use Rattle.curp_model.specs.World.{Stepped, World, completion, has_node, messages, refused, step, with_batch}
use Rattle.curp_msg.specs.Input as input
use Rattle.curp_msg.specs.declared.message.Message.{Message}
use Rattle.curp_msg.specs.declared.outcome.StepResult.TheVariants.{Done, NoMessage, Refused}
use Rattle.curp_msg.specs.declared.script.Step.TheVariants.{Deliver}
use Rattle.curp_order.specs.declared.Event.{Event}
use Rattle.curp_cluster.specs.Given.{MakesStep, hands}
use Rattle.curp_cluster.specs.Marked.{seen}
use Rattle.curp_cluster.proofs.Keeping.{as_before, message_kept, nothing_done, nothing_kept, seen_same}
use Rattle.curp_cluster.proofs.Stepping.{addressed, delivers, kept_from, loses, no_message, passed}
use Rattle.curp_cluster.proofs.cluster.Cluster.deliver.Goals as goal

-- the message is there still
pub unreachable-requires : goal.unreachable-requires
unreachable-requires c =
    let w : World = c.args.self.now in
    let place = c.place_of-place.result in
    let lost : numbered (messages w) place ≡ None =
    ap (λ (v : World). numbered (messages v) place) (sym c.self.view_is)
    ∙ ap (λ (lists : List (List Message)). numbered (all_of lists) place) (sym c.reserve.ensures.lists) ∙ sym c.in_default-get_at.ensures in
    let nobody : Some c.in-Some.to ≡ None = c.in-Some.ensures ∙ ap (option_map (λ (m : Message). m.to)) lost in
    cc

pub give-requires : goal.give-requires
give-requires c =
    let i = c.self.inside in
    let was : World = seen i.marked i.stopped i.sent.lists i.history.events in
    let there = subst (λ (w : World). has_node w c.in-Some.to ≡ true) (sym c.self.view_is) (passed c.args.self.now c.in-Some.to (sym c.in_default-barrier.ensures)) in
    record { there = (was, there) }

pub returns : goal.returns
returns c =
    let i = c.self.inside in
    let w : World = c.args.self.now in
    let to = c.in-Some.to in
    let m : Message = c.in-Some-get_at.message.now in
    let done = c.in_ok-refused.field-0 in
    let place = c.place_of-place.result in
    let found : numbered (messages w) place ≡ Some m =
    ap (λ (v : World). numbered (messages v) place) (sym c.self.view_is)
    ∙ ap (λ (lists : List (List Message)). numbered (all_of lists) place) (sym c.reserve.ensures.lists) ∙ sym c.in-Some-get_at.ensures in
    let steps : step w (Deliver c.args.number) ≡ hands w to (input.Message m) =
    subst (λ (n : ℕ). step w (Deliver n) ≡ hands w to (input.Message m)) c.place_of-place.ensures
    (delivers w place to m found (addressed (numbered (messages w) place) m to (sym c.in-Some.ensures) found)) in
    let sends = c.keep.ensures.sent ∙ ap (λ (lists : List (List Message)). with_batch lists done.sent) c.reserve.ensures.lists in
    let records = c.keep.ensures.history ∙ ap (λ (events : List Event). (events ++ []) ++ completion done.completed) c.reserve-2.ensures.events in
    let outcome = c.keep.ensures.outcome ∙ ap (λ (lists : List (List Message)).
    record { result = Done; first = length (all_of lists) + 1; sent = length done.sent; completed = done.completed }) c.reserve.ensures.lists in
    subst (λ (s : Stepped). MakesStep {E = AllocError} w (seen c.give.new.self i.stopped c.keep.new.sent.lists c.keep.new.history.events) (Ok c.keep.result) s) (sym steps)
    (message_kept i.marked c.give.new.self i.stopped i.sent.lists c.keep.new.sent.lists i.history.events c.keep.new.history.events w
    to m done c.keep.result c.in_ok-refused.ensures c.self.view_is (sym c.in_default-barrier.ensures) c.if-refused-ne0.false sends records outcome)

-- where there is no such message, something is in the way, or the node refuses, and by an error, all is as it was
pub returns-in_default : goal.returns-in_default
returns-in_default c =
    let nothing = subst (λ (n : ℕ). numbered (messages c.args.self.now) n ≡ None) c.place_of-place.ensures
    (no_message (numbered (messages c.args.self.now) c.place_of-place.result) (sym c.in_default.ensures)) in
    nothing_done c.args.self.now _ _ NoMessage (loses c.args.self.now c.args.number nothing) c.silent.ensures

pub returns-in-Some-barrier : goal.returns-in-Some-barrier
returns-in-Some-barrier c =
    let w : World = c.args.self.now in
    let why = c.in-Some-barrier.why in
    let bars : step w (Deliver c.args.number) ≡ refused w why =
    subst (λ (n : ℕ). step w (Deliver n) ≡ refused w why) c.place_of-place.ensures
    (kept_from w c.place_of-place.result c.in-Some.to why (sym c.in-Some.ensures) (sym c.in-Some-barrier.ensures)) in
    nothing_done w _ _ why bars c.silent-in-Some-barrier.ensures

pub returns-in_err-refused : goal.returns-in_err-refused
returns-in_err-refused c =
    let i = c.self.inside in
    let was : World = seen i.marked i.stopped i.sent.lists i.history.events in
    as_before c.from_residual-in_err-refused.result c.in_err-refused.field-0.0 _ _ _ (search rules)
    (seen_same i.marked c.give.new.self i.stopped i.sent.lists c.reserve.new.self.lists i.history.events c.reserve-2.new.self.events c.args.self.now
    (c.in_err-refused.ensures was) c.reserve.ensures.lists c.reserve-2.ensures.events c.self.view_is)

pub returns-then-refused-ne0 : goal.returns-then-refused-ne0
returns-then-refused-ne0 c =
    let i = c.self.inside in
    let w : World = c.args.self.now in
    let to = c.in-Some.to in
    let m : Message = c.in-Some-get_at.message.now in
    let done = c.in_ok-refused.field-0 in
    let place = c.place_of-place.result in
    let found : numbered (messages w) place ≡ Some m =
    ap (λ (v : World). numbered (messages v) place) (sym c.self.view_is)
    ∙ ap (λ (lists : List (List Message)). numbered (all_of lists) place) (sym c.reserve.ensures.lists) ∙ sym c.in-Some-get_at.ensures in
    let steps : step w (Deliver c.args.number) ≡ hands w to (input.Message m) =
    subst (λ (n : ℕ). step w (Deliver n) ≡ hands w to (input.Message m)) c.place_of-place.ensures
    (delivers w place to m found (addressed (numbered (messages w) place) m to (sym c.in-Some.ensures) found)) in
    let none = nothing_kept i.marked c.give.new.self i.stopped i.sent.lists c.reserve.new.self.lists i.history.events c.reserve-2.new.self.events w
    to (input.Message m) done c.in_ok-refused.ensures c.self.view_is (sym c.in_default-barrier.ensures) c.if-refused-ne0.true c.reserve.ensures.lists c.reserve-2.ensures.events in
    let refuses = steps ∙ none.1 in (
      none.0 ∙ sym (ap (λ (x : Stepped). x.world) refuses),
      c.silent-then-refused-ne0.ensures ∙ ap (λ (v : World). (refused v (Refused done.refused)).outcome) none.0
          ∙ sym (ap (λ (x : Stepped). x.outcome) refuses),
    )
