use Rattle.std.proofs.Common.{◌≡◌, ◌+◌, ◌≤◌, drop, fold}
use Rattle.std.specs.BTreeSet.{insert_key}
use Rattle.std.specs.Ordering.{nat_cmp}
use Rattle.curp_rifl.specs.Clients.{firsts_of, gone_of}
use Rattle.curp_rifl.proofs.clients.mark_all_gone.Given as goal

-- the clients that are left make it all of them, and there is room for them
abbrev pub invariant-loop-client : goal.invariant-loop-client
invariant-loop-client l = record {
  firsts : firsts_of l.clients.items ≡ firsts_of l.fn.clients.items;
  gone : fold (insert_key nat_cmp) (gone_of l.clients.items) (drop l.client-index l.gone) ≡ fold (insert_key nat_cmp) (gone_of l.fn.clients.items) l.gone;
  spare : l.fn.clients.spare ≤ l.clients.spare + l.client-index;
}
