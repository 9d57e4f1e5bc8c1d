use Rattle.std.proofs.Common.{◌≡◌, drop, take, true}
use Rattle.curp_base.specs.Words.{Each}
use Rattle.curp_io.specs.Streams.{SameCount}
use Rattle.curp_law_print.specs.EventRanges.{EventInRange}
use Rattle.curp_script.specs.EventTexts.{history_lines}
use Rattle.curp_runner.proofs.SoFar.{SoFar}
use Rattle.curp_play.proofs.history.write_events.Given as goal

-- what was written so far, and the lines that are left
abbrev pub invariant-loop-kept : goal.invariant-loop-kept
invariant-loop-kept g l = record {
  sink_tells : g.K.Sink.tells l.fn.sink ≡ true → g.K.Sink.tells l.sink ≡ true;
  sink_faults : SameCount (g.K.Sink.faults l.fn.sink) (g.K.Sink.faults l.sink);
  written : g.K.Sink.tells l.fn.sink ≡ true → SoFar (history_lines l.fn.events) (g.K.Sink.held l.fn.sink) (g.K.Sink.held l.sink) (history_lines (drop l.kept-index l.events));
  in_range : Each EventInRange (take l.kept-index l.events);
}
