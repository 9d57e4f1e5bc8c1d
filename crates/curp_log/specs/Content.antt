-- A log in memory.
use Rattle.std.specs.Prelude.{ℕ, List}
use Rattle.curp_cmd.specs.declared.entry.Entry.{Entry}

-- what a log holds, behind the range that its master began with, how many of its oldest entries are packed, and how much more
-- it has room for
pub record Content : Type 0 where
  pub lo : ℕ
  pub hi : ℕ
  pub entries : List Entry
  pub packed : ℕ
  pub spare : ℕ
