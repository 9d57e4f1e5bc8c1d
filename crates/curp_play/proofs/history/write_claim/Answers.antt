use Rattle.std.proofs.Common.{arith, rules, ◌≡◌, ◌∙◌, ◌++◌, List, OnOk, subst, ap}
use Rattle.std.proofs.lemmas.Grind.{common_steps}
use Rattle.curp_base.specs.Words.{Each}
use Rattle.curp_order.specs.Order.{Asked}
use Rattle.curp_law_print.specs.EventRanges.{AskedInRange, EventInRange}
use Rattle.curp_model.specs.World.{order}
use Rattle.curp_order.specs.declared.Event as seen
use Rattle.curp_play.proofs.Claims.{asked_of_order, claim_of_order, on_ok_then}
use Rattle.curp_runner.proofs.Pieces.{both_if_ok, first_of_two, second_of_two}
use Rattle.curp_play.specs.Play.{asked_of}
use Rattle.curp_io.specs.Streams.{HoldsPart}
use Rattle.curp_script.specs.EventTexts.{history_lines, order_lines}
use Rattle.curp_play.proofs.history.write_claim.Goals as goal

pub returns-clause-claim : goal.returns-clause-claim
returns-clause-claim g c =
    let w = c.args.world.now in
    let events = c.events.ensures ∙ c.history.ensures.events in
    let asked = ap asked_of (c.deref.ensures.value ∙ c.in_ok-order.ensures.list) ∙ asked_of_order w in
    on_ok_then c.write_order.result
    (λ each. claim_of_order w (subst (λ (es : List seen.Event). Each EventInRange es) events c.in_ok-write_events.ensures.in_range)
    (subst (λ (xs : List Asked). Each AskedInRange xs) asked each) c.history.ensures.is_history c.order.ensures.is_order c.requires
    (c.orders_are_short.ensures w.history (order w) c.order.ensures.is_order) c.printed_claims_are_read.ensures)
    c.write_order.ensures.in_range

pub returns-in_err-write_events-clause-puts : goal.returns-in_err-write_events-clause-puts
returns-in_err-write_events-clause-puts g c =
    let w = c.args.world.now in
    let old = g.K.Sink.held c.args.sink.now in
    let new = g.K.Sink.held c.write_events.new.sink in
    let events = c.events.ensures ∙ c.history.ensures.events in
    record {
      whole = first_of (search rules, grind (arith, common_steps));
      prefix = λ tells.
          first_of_two old new (history_lines w.history) (order_lines (order w))
          (subst (λ (es : List seen.Event). HoldsPart old new (history_lines es)) events (c.write_events.ensures.puts.prefix tells));
      writing = first_of (search rules, grind (arith, common_steps));
      tells = first_of (search rules, grind (arith, common_steps));
      fault = first_of (search rules, grind (arith, common_steps));
    }

pub returns-clause-puts : goal.returns-clause-puts
returns-clause-puts g c =
    let w = c.args.world.now in
    let old = g.K.Sink.held c.args.sink.now in
    let mid = g.K.Sink.held c.write_events.new.sink in
    let new = g.K.Sink.held c.write_order.new.sink in
    let events = c.events.ensures ∙ c.history.ensures.events in
    let asked = ap asked_of (c.deref.ensures.value ∙ c.in_ok-order.ensures.list) ∙ asked_of_order w in
    record {
      whole = λ tells.
          both_if_ok c.write_order.result old mid new (history_lines w.history) (order_lines (order w))
          (c.in_ok-write_events.ensures.puts.whole tells ∙ ap (λ (es : List seen.Event). old ++ history_lines es) events)
          (subst (λ (xs : List Asked). OnOk c.write_order.result (new ≡ mid ++ order_lines xs)) asked
          (c.write_order.ensures.puts.whole (c.write_events.ensures.puts.tells tells)));
      prefix = λ tells.
          second_of_two old mid new (history_lines w.history) (order_lines (order w))
          (c.in_ok-write_events.ensures.puts.whole tells ∙ ap (λ (es : List seen.Event). old ++ history_lines es) events)
          (subst (λ (xs : List Asked). HoldsPart mid new (order_lines xs)) asked (c.write_order.ensures.puts.prefix (c.write_events.ensures.puts.tells tells)));
      writing = first_of (search rules, grind (arith, common_steps));
      tells = first_of (search rules, grind (arith, common_steps));
      fault = first_of (search rules, grind (arith, common_steps));
    }
