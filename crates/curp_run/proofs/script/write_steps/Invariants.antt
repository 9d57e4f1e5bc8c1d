use Rattle.std.proofs.Common.{◌≡◌, ◌≤◌, ◌+◌, ◌-◌, true}
use Rattle.curp_io.specs.Streams.{SameCount}
use Rattle.curp_gen.specs.Making.{steps_from}
use Rattle.curp_script.specs.Texts.{lines_text}
use Rattle.curp_runner.proofs.SoFar.{SoFar}
use Rattle.curp_run.specs.Run.{ArePrintable}
use Rattle.curp_run.proofs.script.write_steps.Given as goal

-- what was written so far, and the steps that are left
abbrev pub invariant-loop : goal.invariant-loop
invariant-loop g l = record {
  counted : (l.counter ≤ l.count) × (l.maker.made + (l.count - l.counter) ≤ l.maker.plan.steps);
  sink_tells : g.K.Sink.tells l.fn.sink ≡ true → g.K.Sink.tells l.sink ≡ true;
  sink_faults : SameCount (g.K.Sink.faults l.fn.sink) (g.K.Sink.faults l.sink);
  written : g.K.Sink.tells l.fn.sink ≡ true → SoFar (lines_text (steps_from l.fn.count l.fn.maker)) (g.K.Sink.held l.fn.sink)
      (g.K.Sink.held l.sink) (lines_text (steps_from (l.count - l.counter) l.maker));
  printable : ArePrintable (steps_from (l.count - l.counter) l.maker) → ArePrintable (steps_from l.fn.count l.fn.maker);
}
