use Rattle.std.proofs.Common.{◌≡◌, drop}
use Rattle.curp_model.specs.Recovery.{replay}
use Rattle.curp_recover.proofs.replay.replay.Given as goal

-- the requests that are left make it the log with all that are replayed
abbrev pub invariant-loop-request : goal.invariant-loop-request
invariant-loop-request l = record {
  lo : l.log.lo ≡ l.fn.log.lo;
  hi : l.log.hi ≡ l.fn.log.hi;
  entries : replay l.log.lo l.log.hi l.log.entries (drop l.request-index l.requests) ≡ replay l.fn.log.lo l.fn.log.hi l.fn.log.entries l.requests;
}
