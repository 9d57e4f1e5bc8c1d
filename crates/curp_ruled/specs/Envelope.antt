-- What contracts see of an envelope (this project's own).
use Rattle.std.specs.Prelude.{ℕ, Option, Some, None}
use Rattle.curp_journal.specs.declared.arrived.Arrived.{Arrived}

-- who sent it, and what it carries to a node; none where it is that sender's end
pub record Letter : Type 0 where
  pub sender : ℕ
  pub carries : Option Arrived
