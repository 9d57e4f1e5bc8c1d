use Rattle.std.proofs.Common.{◌≡◌, ◌++◌, drop}
use Rattle.curp_rifl.specs.Clients.{firsts_of}
use Rattle.curp_rifl.proofs.clients.firsts_in.Given as goal

-- the numbers so far, and those of the clients that are left, are all of them
abbrev pub invariant-loop-client : goal.invariant-loop-client
invariant-loop-client l = l.firsts.items ++ firsts_of (drop l.client-index l.clients) ≡ firsts_of l.clients
