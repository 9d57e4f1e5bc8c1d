-- A list of entries in memory.
use Rattle.std.specs.Prelude.{◌≡◌, ℕ, ◌<◌, ◌≤◌, ◌^◌, List, ◌++◌, length}
use Rattle.curp_cmd.specs.declared.entry.Entry.{Entry}

-- the entries, how many of the oldest are packed, and for how many more there is room
pub record EntryList : Type 0 where
  pub entries : List Entry
  pub packed : ℕ
  pub spare : ℕ

-- these are the last of those
pub record AreLast (last entries : List Entry) : Type 0 where
  pub others : List Entry
  pub behind : entries ≡ others ++ last

-- how many of the packed entries are there as they are too, at most: 16 runs of 64
abbrev pub most_recent : ℕ
most_recent = 1024

-- packed entries, a few of which, the last, are there as they are too, and those behind them, are no more than memory holds
pub record AreHeld (packed recent tail : List Entry) : Type 0 where
  pub few : length (packed ++ tail) < 2 ^ 63
  pub last : AreLast recent packed
  pub few_recent : length recent ≤ most_recent
