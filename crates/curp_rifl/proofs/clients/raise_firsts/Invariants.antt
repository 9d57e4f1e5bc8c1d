use Rattle.std.proofs.Common.{◌≡◌, ◌+◌, ◌≤◌, drop}
use Rattle.curp_rifl.specs.Clients.{firsts_of, gone_of}
use Rattle.curp_rifl.specs.Records.{with_firsts}
use Rattle.curp_rifl.proofs.clients.raise_firsts.Given as goal

-- the numbers that are left make it all of them, and there is room for them
abbrev pub invariant-loop-client : goal.invariant-loop-client
invariant-loop-client l = record {
  firsts : with_firsts (firsts_of l.clients.items) (drop l.client-index l.raised) ≡ with_firsts (firsts_of l.fn.clients.items) l.raised;
  gone : gone_of l.clients.items ≡ gone_of l.fn.clients.items;
  spare : l.fn.clients.spare ≤ l.clients.spare + l.client-index;
}
