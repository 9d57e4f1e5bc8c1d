use Rattle.std.proofs.Common.{◌≡◌, ◌+◌, ◌≤◌, ◌++◌, length, take}
use Rattle.curp_slots.specs.Collection.{places_freed}
use Rattle.curp_slots.proofs.register.free_places.Given as goal

-- the places so far
abbrev pub invariant-loop-id : goal.invariant-loop-id
invariant-loop-id l = record {
  so_far : l.free.items ≡ l.initial.free.items ++ places_freed l.listed (take l.id-index l.index);
  most : length l.free.items ≤ length l.initial.free.items + l.id-index;
  room : length l.free.items + l.free.spare ≡ length l.initial.free.items + l.initial.free.spare;
}
