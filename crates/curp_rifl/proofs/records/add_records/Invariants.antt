use Rattle.std.proofs.Common.{◌≡◌, ◌+◌, ◌≤◌, drop}
use Rattle.curp_rifl.specs.Records.{with_records}
use Rattle.curp_rifl.proofs.records.add_records.Given as goal

-- the records that are left make it all of them, and there is room for them
abbrev pub invariant-loop-id : goal.invariant-loop-id
invariant-loop-id l = record {
  items : with_records l.index l.records.items (drop l.id-index l.added) ≡ with_records l.index l.fn.records.items l.added;
  spare : l.fn.records.spare ≤ l.records.spare + l.id-index;
}
