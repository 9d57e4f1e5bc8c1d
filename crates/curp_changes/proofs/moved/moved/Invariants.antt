use Rattle.std.proofs.Common.{◌≡◌, ◌≤◌, ◌+◌, length, map}
use Rattle.curp_changes.specs.Moving.{RoomyEntry}
use Rattle.curp_model.specs.Manager.{moved_part}
use Rattle.curp_changes.proofs.moved.moved.Given as goal

-- the entries so far, and room for those that are left
abbrev pub invariant-loop-entry : goal.invariant-loop-entry
invariant-loop-entry l = record {
  entries : l.list.items ≡ map (moved_part l.migration) (map (λ (e : RoomyEntry). e.entry) l.yielded);
  room : length l.fn.roomy.items ≤ length l.yielded + l.list.spare;
}
