-- A script for `manage`: the header, the lines behind it, and how it ends.
use Rattle.std.specs.Prelude.{◌≡◌, ℕ, Bool, true, false, List, ⊤}
use Rattle.curp_io.specs.Text.{lines_of}
use Rattle.curp_msg.specs.declared.machine.Local.{Local}
use Rattle.curp_msg.specs.declared.machine.Local.TheVariants as order
use Rattle.curp_runner.specs.Reading.{SaidScript, script_by}
use Rattle.curp_script.specs.Manage.{manage_in}
use Rattle.curp_script.specs.declared.manage.ManageLine.{ManageLine}
use Rattle.curp_script.specs.declared.manage.ManageLine.TheVariants.{Order, Recovered, Crash}

-- the script that bytes are
abbrev pub manage_script_in : List ℕ → SaidScript ManageLine
manage_script_in bytes = script_by manage_in (lines_of bytes)

-- it is an order for another kind of node
abbrev pub is_others_order : Local → Bool
is_others_order (order.Invoke command) = true
is_others_order (order.Retry seq) = true
is_others_order order.Fetch = true
is_others_order order.Sync = true
is_others_order order.Collect = true
is_others_order _ = false

-- an order in a line is one of the manager's
abbrev pub IsForManager : ManageLine → Type 0
IsForManager (Order o) = is_others_order o ≡ false
IsForManager (Recovered part epoch) = ⊤
IsForManager (Crash call kept) = ⊤
