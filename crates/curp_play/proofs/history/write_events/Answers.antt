use Rattle.std.proofs.Common.{arith, rules, ◌≡◌, ◌+◌, ◌++◌, drop, subst}
use Rattle.std.proofs.lemmas.Grind.{common_steps}
use Rattle.curp_check.proofs.Items.{next_too}
use Rattle.curp_io.specs.Streams.{HoldsPart}
use Rattle.curp_law_print.specs.EventRanges.{EventInRange}
use Rattle.curp_script.specs.EventTexts.{event_line, history_lines}
use Rattle.curp_script.specs.declared.event.EventLine.TheVariants.{Event}
use Rattle.curp_play.proofs.Claims.{next_event, no_event_left}
use Rattle.curp_runner.proofs.Pieces.{goes_further, is_whole, still_prefix, written_part}
use Rattle.curp_runner.proofs.SoFar.{SoFar}
use Rattle.curp_play.proofs.history.write_events.Goals as goal

pub returns-in_err-write_line-clause-puts : goal.returns-in_err-write_line-clause-puts
returns-in_err-write_line-clause-puts g c =
    let events = c.args.events.now in
    let k = c.loop-kept.kept-index in
    let e = c.kept-item.result in
    let text = history_lines events in
    let old = g.K.Sink.held c.args.sink.now in
    let now = g.K.Sink.held c.loop-kept.sink in
    record {
      whole = first_of (search rules, grind (arith, common_steps));
      prefix = λ tells.
          let due : SoFar text old now (event_line (Event e) ++ history_lines (drop (k + 1) events)) =
          subst (λ d. SoFar text old now d) (next_event events k e c.loop-kept-test.true c.kept-item.is) (c.loop-kept.invariant.written tells) in
          still_prefix text old now (g.K.Sink.held c.write_line.new.sink) (event_line (Event e)) (history_lines (drop (k + 1) events)) due
          (subst (λ x. HoldsPart now (g.K.Sink.held c.write_line.new.sink) (event_line (Event x))) c.event-event.ensures
          (c.write_line.ensures.prefix (c.loop-kept.invariant.sink_tells tells)));
      writing = first_of (search rules, grind (arith, common_steps));
      tells = first_of (search rules, grind (arith, common_steps));
      fault = first_of (search rules, grind (arith, common_steps));
    }

pub loop-kept-preserved : goal.loop-kept-preserved
loop-kept-preserved g c =
    let events = c.args.events.now in
    let k = c.loop-kept.kept-index in
    let e = c.kept-item.result in
    record {
      sink_tells = search rules;
      sink_faults = search rules;
      written = λ tells.
          let text = history_lines events in
          let old = g.K.Sink.held c.args.sink.now in
          let now = g.K.Sink.held c.loop-kept.sink in
          let due : SoFar text old now (event_line (Event e) ++ history_lines (drop (k + 1) events)) =
          subst (λ d. SoFar text old now d) (next_event events k e c.loop-kept-test.true c.kept-item.is) (c.loop-kept.invariant.written tells) in
          goes_further text old now (g.K.Sink.held c.write_line.new.sink) (event_line (Event e)) (history_lines (drop (k + 1) events)) due
          (subst (λ x. g.K.Sink.held c.write_line.new.sink ≡ now ++ event_line (Event x)) c.event-event.ensures
          (c.in_ok-write_line.ensures.whole (c.loop-kept.invariant.sink_tells tells)));
      in_range = next_too EventInRange events k e c.loop-kept-test.true c.kept-item.is c.loop-kept.invariant.in_range
          (subst EventInRange c.event-event.ensures c.event_is_in_range.ensures);
    }

pub returns-clause-puts : goal.returns-clause-puts
returns-clause-puts g c = record {
  whole = λ tells. is_whole _ _ _ _ (c.loop-kept.invariant.written tells) (no_event_left c.args.events.now c.loop-kept.kept-index (search rules));
  prefix = λ tells. written_part _ _ _ _ (c.loop-kept.invariant.written tells);
  writing = first_of (search rules, grind (arith, common_steps));
  tells = first_of (search rules, grind (arith, common_steps));
  fault = first_of (search rules, grind (arith, common_steps));
}
