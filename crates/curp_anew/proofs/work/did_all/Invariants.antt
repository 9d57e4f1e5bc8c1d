use Rattle.std.proofs.Common.{map}
use Rattle.curp_anew.proofs.Scans.{DidSoFar}
use Rattle.curp_anew.proofs.work.did_all.Given as goal

-- the clients so far did their work
abbrev pub invariant-loop-index : goal.invariant-loop-index
invariant-loop-index l = DidSoFar (map (λ list. list.items) l.work) l.clients l.index
