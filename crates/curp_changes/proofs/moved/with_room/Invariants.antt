use Rattle.std.proofs.Common.{◌≡◌, ◌≤◌, ◌+◌, length, map, OnOk}
use Rattle.curp_base.specs.Words.{Each}
use Rattle.curp_changes.specs.Moving.{HasRoomFor, RoomyEntry}
use Rattle.curp_changes.proofs.moved.with_room.Given as goal

-- the entries so far, and room for those that are left
abbrev pub invariant-loop-entry : goal.invariant-loop-entry
invariant-loop-entry l = record {
  entries : map (λ (e : RoomyEntry). e.entry) l.list.items ≡ l.yielded;
  room : OnOk l.room (Each (HasRoomFor l.migration) l.list.items);
  spare : length l.fn.entries.items ≤ length l.yielded + l.list.spare;
}
