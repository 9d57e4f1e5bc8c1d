-- The order of requests' numbers, and which are the same (RIFL).
use Rattle.std.specs.Prelude.{◌==◌, ◌&&◌, Bool, List}
use Rattle.std.specs.List.{list_any}
use Rattle.std.specs.Ordering.{nat_cmp, ordering_then}
use Rattle.std.specs.declared.cmp.Ordering.{Ordering}
use Rattle.curp_cmd.specs.declared.command.RequestId.{RequestId}

-- by the client, then by its number
abbrev pub id_cmp : RequestId → RequestId → Ordering
id_cmp a b = ordering_then (nat_cmp a.client b.client) (nat_cmp a.seq b.seq)

-- the same request (RIFL)
abbrev pub same_id : RequestId → RequestId → Bool
same_id a b = (a.client == b.client) && (a.seq == b.seq)

-- an id is among others
abbrev pub has_id : RequestId → List RequestId → Bool
has_id id ids = list_any (same_id id) ids
