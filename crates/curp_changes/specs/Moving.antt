-- The entries of partitions while a range moves.
use Rattle.std.specs.Prelude.{◌≡◌, ℕ, ◌≤◌, Option, Some, None}
use Rattle.curp_model.specs.Manager.{Migration}
use Rattle.curp_msg.specs.declared.config.PartConfig.{PartConfig}
use Rattle.curp_range.specs.Spans.{RangeSet}

-- an entry, and for how many more spans it has room
pub record RoomyEntry : Type 0 where
  pub entry : PartConfig
  pub spare : ℕ

-- an entry whose ranges were taken out, with them
abbrev pub with_own : PartConfig → Option RangeSet → PartConfig
with_own c None = c
with_own c (Some ranges) = record c { ranges = ranges.spans }

abbrev pub room_in : Option RangeSet → ℕ
room_in None = 0
room_in (Some ranges) = ranges.spare

-- the source of a migration has room for a range that is put in and taken out, and its target for one that is put in
abbrev pub HasRoomFor : Migration → RoomyEntry → Type 0
HasRoomFor m e = (e.entry.part ≡ m.source → 2 ≤ e.spare) × (e.entry.part ≡ m.target → 1 ≤ e.spare)
