-- What a node gets by what came to it, and the stamp of that (this project's own).
use Rattle.std.specs.Prelude.{ℕ}
use Rattle.curp_msg.specs.Input.{Input}
use Rattle.curp_msg.specs.Input as input
use Rattle.curp_journal.specs.declared.arrived.Arrived.{Arrived}
use Rattle.curp_journal.specs.declared.arrived.Arrived.TheVariants as arrived

-- the input that the node gets
abbrev pub given : Arrived → Input
given (arrived.Local order stamp) = input.Local order
given (arrived.Message named) = input.Message named.message

-- the stamp that it came with
abbrev pub stamp_of : Arrived → ℕ
stamp_of (arrived.Local order stamp) = stamp
stamp_of (arrived.Message named) = named.stamp
