use Rattle.std.proofs.Common.{◌≡◌, drop, take, true}
use Rattle.curp_base.specs.Words.{Each}
use Rattle.curp_io.specs.Streams.{SameCount}
use Rattle.curp_law_print.specs.EventRanges.{AskedInRange}
use Rattle.curp_play.specs.Play.{asked_of}
use Rattle.curp_script.specs.EventTexts.{order_lines}
use Rattle.curp_runner.proofs.SoFar.{SoFar}
use Rattle.curp_play.proofs.history.write_order.Given as goal

-- what was written so far, and the lines that are left
abbrev pub invariant-loop-id : goal.invariant-loop-id
invariant-loop-id g l = record {
  sink_tells : g.K.Sink.tells l.fn.sink ≡ true → g.K.Sink.tells l.sink ≡ true;
  sink_faults : SameCount (g.K.Sink.faults l.fn.sink) (g.K.Sink.faults l.sink);
  written : g.K.Sink.tells l.fn.sink ≡ true → SoFar (order_lines (asked_of l.fn.order)) (g.K.Sink.held l.fn.sink) (g.K.Sink.held l.sink) (order_lines (asked_of (drop l.id-index l.order)));
  in_range : Each AskedInRange (asked_of (take l.id-index l.order));
}
