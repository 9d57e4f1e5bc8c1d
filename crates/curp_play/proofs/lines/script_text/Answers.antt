use Rattle.curp_law_print.specs.Ranges.{StepInRange}
use Rattle.curp_play.proofs.Printing.{first_line, next_line, next_too}
use Rattle.curp_play.proofs.lines.script_text.Goals as goal

pub loop-step-init : goal.loop-step-init
loop-step-init c = record {
  text = first_line c.args.header.now c.in_ok-text.text.items c.extend_from_slice.new.self.items c.in_ok-text.ensures.text c.in_ok-extend_from_slice.ensures.items;
  in_range = tt;
}

pub loop-step-preserved : goal.loop-step-preserved
loop-step-preserved c =
    let ss = c.args.steps.now in
    let k = c.loop-step.step-index in
    let s = c.step-item.result in
    record {
      text = next_line c.args.header.now ss k s c.loop-step.text.items c.push_line.new.text.items c.loop-step-test.true c.step-item.is
          c.loop-step.invariant.text c.in_ok-push_line.ensures.added;
      in_range = next_too StepInRange ss k s c.loop-step-test.true c.step-item.is c.loop-step.invariant.in_range c.push_line.ensures.in_range;
    }
