use Rattle.std.proofs.Common.{◌≡◌, ◌++◌, drop}
use Rattle.curp_model.specs.World.{op_requests}
use Rattle.curp_line.proofs.ops.op_requests.Given as goal

-- the requests so far, and those of the entries that are left
abbrev pub invariant-loop-entry : goal.invariant-loop-entry
invariant-loop-entry l = l.requests.items ++ op_requests (drop l.entry-index l.entries) ≡ op_requests l.entries
