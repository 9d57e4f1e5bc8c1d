use Rattle.std.proofs.Common.{arith, rules, ◌≡◌, ◌+◌, ◌-◌, ◌++◌, ◌∙◌, subst, sym, ap}
use Rattle.std.proofs.lemmas.Grind.{common_steps}
use Rattle.curp_gen.specs.Making.{Making, next_step, steps_from, with_next}
use Rattle.curp_script.specs.Texts.{lines_text, step_line}
use Rattle.curp_io.specs.Streams.{HoldsPart}
use Rattle.curp_runner.proofs.SoFar.{SoFar}
use Rattle.curp_runner.proofs.Pieces.{goes_further, is_whole, still_prefix, written_part}
use Rattle.curp_run.proofs.Steps.{counted_more, next_line, no_line, none_printable, printable_more, printed_line}
use Rattle.curp_run.proofs.script.write_steps.Goals as goal

pub returns-in_err-write_line-clause-puts : goal.returns-in_err-write_line-clause-puts
returns-in_err-write_line-clause-puts g c =
    let text = lines_text (steps_from c.args.count c.args.maker.now) in
    let old = g.K.Sink.held c.args.sink.now in
    let now = g.K.Sink.held c.loop.sink in
    let new = g.K.Sink.held c.write_line.new.sink in
    let piece = step_line (next_step c.loop.maker) in
    let rest = lines_text (steps_from (c.args.count - (c.loop.counter + 1)) (with_next c.loop.maker)) in
    record {
      whole = first_of (search rules, grind (arith, common_steps));
      prefix = λ tells.
          let due : SoFar text old now (piece ++ rest) =
          subst (λ d. SoFar text old now d) (next_line c.loop.maker c.loop.counter c.args.count c.loop-test.true) (c.loop.invariant.written tells) in
          let line = printed_line c.loop.maker c.in_ok-step.step c.in_ok-line.line.items c.in_ok-line.ensures.text c.in_ok-step.ensures.step in
          let wrote : HoldsPart now new piece = subst (λ l. HoldsPart now new l) line (c.write_line.ensures.prefix (c.loop.invariant.sink_tells tells)) in
          still_prefix text old now new piece rest due wrote;
      writing = first_of (search rules, grind (arith, common_steps));
      tells = first_of (search rules, grind (arith, common_steps));
      fault = first_of (search rules, grind (arith, common_steps));
    }

pub loop-preserved : goal.loop-preserved
loop-preserved g c = record {
  counted = counted_more c.loop.maker c.next_step.new.self c.loop.counter c.args.count c.in_ok-step.ensures.state c.loop-test.true c.loop.invariant.counted.1;
  sink_tells = search rules;
  sink_faults = search rules;
  written = λ tells.
      let text = lines_text (steps_from c.args.count c.args.maker.now) in
      let old = g.K.Sink.held c.args.sink.now in
      let now = g.K.Sink.held c.loop.sink in
      let new = g.K.Sink.held c.write_line.new.sink in
      let piece = step_line (next_step c.loop.maker) in
      let left = λ (m : Making). lines_text (steps_from (c.args.count - (c.loop.counter + 1)) m) in
      let due : SoFar text old now (piece ++ left (with_next c.loop.maker)) =
      subst (λ d. SoFar text old now d) (next_line c.loop.maker c.loop.counter c.args.count c.loop-test.true) (c.loop.invariant.written tells) in
      let line = printed_line c.loop.maker c.in_ok-step.step c.in_ok-line.line.items c.in_ok-line.ensures.text c.in_ok-step.ensures.step in
      let wrote : new ≡ now ++ piece = c.in_ok-write_line.ensures.whole (c.loop.invariant.sink_tells tells) ∙ ap (λ l. now ++ l) line in
      subst (λ m. SoFar text old new (left m)) (sym c.in_ok-step.ensures.state) (goes_further text old now new piece (left (with_next c.loop.maker)) due wrote);
  printable = λ left.
      c.loop.invariant.printable (printable_more c.loop.maker c.next_step.new.self c.in_ok-step.step c.loop.counter c.args.count c.loop-test.true
      c.in_ok-step.ensures.step c.in_ok-step.ensures.state c.in_ok-step.ensures.names_node c.step_is_in_range.ensures left);
}

pub returns-clause-puts : goal.returns-clause-puts
returns-clause-puts g c = record {
  whole = λ tells. is_whole _ _ _ _ (c.loop.invariant.written tells) (no_line c.loop.maker c.loop.counter c.args.count (search rules));
  prefix = λ tells. written_part _ _ _ _ (c.loop.invariant.written tells);
  writing = first_of (search rules, grind (arith, common_steps));
  tells = first_of (search rules, grind (arith, common_steps));
  fault = first_of (search rules, grind (arith, common_steps));
}

pub returns-clause-printable : goal.returns-clause-printable
returns-clause-printable g c = c.loop.invariant.printable (none_printable c.loop.maker c.loop.counter c.args.count (search rules))
