use Rattle.std.proofs.Common.{arith, rules, ◌≡◌, ◌+◌, ◌++◌, drop, subst}
use Rattle.std.proofs.lemmas.Grind.{common_steps}
use Rattle.curp_io.specs.Streams.{HoldsPart}
use Rattle.curp_law_print.specs.EventRanges.{AskedInRange}
use Rattle.curp_play.specs.Play.{asked_of}
use Rattle.curp_script.specs.EventTexts.{event_line, order_lines}
use Rattle.curp_script.specs.declared.event.EventLine.TheVariants.{Place}
use Rattle.curp_play.proofs.Claims.{next_place, next_place_too, no_place_left}
use Rattle.curp_runner.proofs.Pieces.{goes_further, is_whole, still_prefix, written_part}
use Rattle.curp_runner.proofs.SoFar.{SoFar}
use Rattle.curp_play.proofs.history.write_order.Goals as goal

pub returns-in_err-write_line-clause-puts : goal.returns-in_err-write_line-clause-puts
returns-in_err-write_line-clause-puts g c =
    let order = c.args.order.now in
    let k = c.loop-id.id-index in
    let x = c.loop-id-item.result in
    let text = order_lines (asked_of order) in
    let old = g.K.Sink.held c.args.sink.now in
    let now = g.K.Sink.held c.loop-id.sink in
    record {
      whole = first_of (search rules, grind (arith, common_steps));
      prefix = λ tells.
          let due : SoFar text old now (event_line (Place x.0 x.1) ++ order_lines (asked_of (drop (k + 1) order))) =
          subst (λ d. SoFar text old now d) (next_place order k x c.loop-id-test.true c.loop-id-item.is) (c.loop-id.invariant.written tells) in
          still_prefix text old now (g.K.Sink.held c.write_line.new.sink) (event_line (Place x.0 x.1)) (order_lines (asked_of (drop (k + 1) order))) due
          (subst (λ command. HoldsPart now (g.K.Sink.held c.write_line.new.sink) (event_line (Place x.0 command))) c.deref-in-loop-id.ensures
          (c.write_line.ensures.prefix (c.loop-id.invariant.sink_tells tells)));
      writing = first_of (search rules, grind (arith, common_steps));
      tells = first_of (search rules, grind (arith, common_steps));
      fault = first_of (search rules, grind (arith, common_steps));
    }

pub loop-id-preserved : goal.loop-id-preserved
loop-id-preserved g c =
    let order = c.args.order.now in
    let k = c.loop-id.id-index in
    let x = c.loop-id-item.result in
    record {
      sink_tells = search rules;
      sink_faults = search rules;
      written = λ tells.
          let text = order_lines (asked_of order) in
          let old = g.K.Sink.held c.args.sink.now in
          let now = g.K.Sink.held c.loop-id.sink in
          let due : SoFar text old now (event_line (Place x.0 x.1) ++ order_lines (asked_of (drop (k + 1) order))) =
          subst (λ d. SoFar text old now d) (next_place order k x c.loop-id-test.true c.loop-id-item.is) (c.loop-id.invariant.written tells) in
          goes_further text old now (g.K.Sink.held c.write_line.new.sink) (event_line (Place x.0 x.1)) (order_lines (asked_of (drop (k + 1) order))) due
          (subst (λ command. g.K.Sink.held c.write_line.new.sink ≡ now ++ event_line (Place x.0 command)) c.deref-in-loop-id.ensures
          (c.in_ok-write_line.ensures.whole (c.loop-id.invariant.sink_tells tells)));
      in_range = next_place_too order k x c.loop-id-test.true c.loop-id-item.is c.loop-id.invariant.in_range
          (subst (λ command. AskedInRange (x.0, command)) c.deref.ensures c.asked_is_in_range.ensures);
    }

pub returns-clause-puts : goal.returns-clause-puts
returns-clause-puts g c = record {
  whole = λ tells. is_whole _ _ _ _ (c.loop-id.invariant.written tells) (no_place_left c.args.order.now c.loop-id.id-index (search rules));
  prefix = λ tells. written_part _ _ _ _ (c.loop-id.invariant.written tells);
  writing = first_of (search rules, grind (arith, common_steps));
  tells = first_of (search rules, grind (arith, common_steps));
  fault = first_of (search rules, grind (arith, common_steps));
}
