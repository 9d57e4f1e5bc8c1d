use Rattle.std.proofs.Common.{◌≡◌, ◌++◌, drop}
use Rattle.curp_rifl.specs.Clients.{gone_of}
use Rattle.curp_rifl.proofs.clients.gone_in.Given as goal

-- the clients so far, and those of the ones that are left, are all that are gone
abbrev pub invariant-loop-client : goal.invariant-loop-client
invariant-loop-client l = l.gone.items ++ gone_of (drop l.client-index l.clients) ≡ gone_of l.clients
