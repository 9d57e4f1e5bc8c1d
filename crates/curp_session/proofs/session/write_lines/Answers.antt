use Rattle.std.proofs.Common.{arith, rules, ◌≡◌, ◌+◌, ◌++◌, drop, subst, List, ℕ}
use Rattle.std.proofs.lemmas.Grind.{common_steps}
use Rattle.curp_io.specs.Streams.{HoldsPart}
use Rattle.curp_runner.proofs.Pieces.{goes_further, is_whole, still_prefix, written_part}
use Rattle.curp_runner.proofs.SoFar.{SoFar}
use Rattle.curp_script.specs.Texts.{line_text, lines_text, step_line}
use Rattle.curp_session.proofs.Texts.{next_in_range, next_line, no_line_left}
use Rattle.curp_session.proofs.session.write_lines.Goals as goal

pub returns-in_err-write_line-clause-puts : goal.returns-in_err-write_line-clause-puts
returns-in_err-write_line-clause-puts g c =
    let steps = c.args.steps.now in
    let k = c.loop-step.step-index in
    let s = c.step-item.result in
    let text = lines_text steps in
    let old = g.K.Sink.held c.args.sink.now in
    let now = g.K.Sink.held c.loop-step.sink in
    let new = g.K.Sink.held c.write_line.new.sink in
    record {
      whole = first_of (search rules, grind (arith, common_steps));
      prefix = λ tells.
          let due : SoFar text old now (step_line s ++ lines_text (drop (k + 1) steps)) =
          subst (λ (d : List ℕ). SoFar text old now d) (next_line steps k s c.loop-step-test.true c.step-item.is) (c.loop-step.invariant.written tells) in
          still_prefix text old now new (step_line s) (lines_text (drop (k + 1) steps)) due
          (subst (λ (l : List ℕ). HoldsPart now new (line_text l)) c.in_ok-print_line.ensures.text (c.write_line.ensures.prefix (c.loop-step.invariant.sink_tells tells)));
      writing = first_of (search rules, grind (arith, common_steps));
      tells = first_of (search rules, grind (arith, common_steps));
      fault = first_of (search rules, grind (arith, common_steps));
    }

pub loop-step-preserved : goal.loop-step-preserved
loop-step-preserved g c =
    let steps = c.args.steps.now in
    let k = c.loop-step.step-index in
    let s = c.step-item.result in
    record {
      sink_tells = search rules;
      sink_faults = search rules;
      written = λ tells.
          let text = lines_text steps in
          let old = g.K.Sink.held c.args.sink.now in
          let now = g.K.Sink.held c.loop-step.sink in
          let new = g.K.Sink.held c.write_line.new.sink in
          let due : SoFar text old now (step_line s ++ lines_text (drop (k + 1) steps)) =
          subst (λ (d : List ℕ). SoFar text old now d) (next_line steps k s c.loop-step-test.true c.step-item.is) (c.loop-step.invariant.written tells) in
          goes_further text old now new (step_line s) (lines_text (drop (k + 1) steps)) due
          (subst (λ (l : List ℕ). new ≡ now ++ line_text l) c.in_ok-print_line.ensures.text (c.in_ok-write_line.ensures.whole (c.loop-step.invariant.sink_tells tells)));
      in_range = next_in_range steps k s c.loop-step-test.true c.step-item.is c.loop-step.invariant.in_range c.step_is_in_range.ensures;
    }

pub returns-clause-puts : goal.returns-clause-puts
returns-clause-puts g c =
    let steps = c.args.steps.now in
    let k = c.loop-step.step-index in
    record {
      whole = λ tells. is_whole _ _ _ _ (c.loop-step.invariant.written tells) (no_line_left steps k (search rules));
      prefix = λ tells. written_part _ _ _ _ (c.loop-step.invariant.written tells);
      writing = first_of (search rules, grind (arith, common_steps));
      tells = first_of (search rules, grind (arith, common_steps));
      fault = first_of (search rules, grind (arith, common_steps));
    }
