-- No stream failed so far, and a source that tells its bytes still does.
use Rattle.std.proofs.Common.{◌≡◌, true}
use Rattle.curp_io.specs.Streams.{SameCount}
use Rattle.curp_front_node.proofs.serving.serve.Given as goal

abbrev pub invariant-loop : goal.invariant-loop
invariant-loop g l = record {
  read : SameCount (g.S.Source.faults l.fn.source) (g.S.Source.faults l.source);
  wrote : SameCount (g.K.Sink.faults l.fn.sink) (g.K.Sink.faults l.sink);
  tells : g.S.Source.tells l.fn.source ≡ true → g.S.Source.tells l.source ≡ true;
}
