-- What was put so far, by calls of which none was refused.
use Rattle.std.proofs.Common.{length, take, ◌-◌, ◌≡◌, ◌≤◌, ◌++◌, true}
use Rattle.curp_io.specs.Streams.{SameCount}
use Rattle.curp_io.proofs.write.write_piece.Given as goal

abbrev pub invariant-pieces : goal.invariant-pieces
invariant-pieces g l = record {
  done : l.done ≤ length l.bytes;
  bytes : g.K.Sink.tells l.fn.sink ≡ true → g.K.Sink.held l.sink ≡ g.K.Sink.held l.fn.sink ++ take l.done l.bytes;
  tells : g.K.Sink.tells l.fn.sink ≡ true → g.K.Sink.tells l.sink ≡ true;
  same_count : SameCount (g.K.Sink.faults l.fn.sink) (g.K.Sink.faults l.sink);
}

abbrev pub decreases-pieces : goal.decreases-pieces
decreases-pieces g l = length l.bytes - l.done
