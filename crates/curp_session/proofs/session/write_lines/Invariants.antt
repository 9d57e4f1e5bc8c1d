use Rattle.std.proofs.Common.{◌≡◌, drop, take, true}
use Rattle.curp_base.specs.Words.{Each}
use Rattle.curp_io.specs.Streams.{SameCount}
use Rattle.curp_law_print.specs.Ranges.{StepInRange}
use Rattle.curp_runner.proofs.SoFar.{SoFar}
use Rattle.curp_script.specs.Texts.{lines_text}
use Rattle.curp_session.proofs.session.write_lines.Given as goal

-- what was written so far, and the lines that are left
abbrev pub invariant-loop-step : goal.invariant-loop-step
invariant-loop-step g l = record {
  sink_tells : g.K.Sink.tells l.fn.sink ≡ true → g.K.Sink.tells l.sink ≡ true;
  sink_faults : SameCount (g.K.Sink.faults l.fn.sink) (g.K.Sink.faults l.sink);
  written : g.K.Sink.tells l.fn.sink ≡ true → SoFar (lines_text l.fn.steps) (g.K.Sink.held l.fn.sink) (g.K.Sink.held l.sink) (lines_text (drop l.step-index l.steps));
  in_range : Each StepInRange (take l.step-index l.steps);
}
