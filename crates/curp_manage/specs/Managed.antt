-- What `manage` does by its lines: the manager's inputs, each of which is kept, refused, or stopped by a crash. Nothing is
-- said here of a disk or a journal.
use Rattle.std.specs.Prelude.{ℕ, ◌+◌, ◌==◌, ◌&&◌, if◌then◌else◌, Bool, true, false, [], length, Option, Some, None}
use Rattle.curp_cmd.specs.Node.{manager_node, master_node}
use Rattle.curp_manage.specs.declared.outcome.LineOutcome.{LineOutcome}
use Rattle.curp_manage.specs.declared.outcome.LineOutcome.TheVariants as outcome
use Rattle.curp_manage.specs.declared.managing.Crash.{Crash}
use Rattle.curp_model.specs.Manager.{ManagerState, manager_input, opening_manager}
use Rattle.curp_model.specs.World.{shape_of}
use Rattle.curp_msg.specs.Moved.{Moved, says}
use Rattle.curp_msg.specs.declared.body.Body.TheVariants as body
use Rattle.curp_msg.specs.Input.{Input}
use Rattle.curp_msg.specs.Input as input
use Rattle.curp_msg.specs.declared.message.Message.{Message}
use Rattle.curp_msg.specs.declared.script.Header.{Header}
use Rattle.curp_script.specs.declared.manage.ManageLine.{ManageLine}
use Rattle.curp_script.specs.declared.manage.ManageLine.TheVariants as line

-- the manager after the inputs that are kept, how many these are, the number of the next message, and the crash to come
pub record Managed : Type 0 where
  pub state : ManagerState
  pub decisions : ℕ
  pub next : ℕ
  pub crash : Option Crash

-- what a line leads to, and what came of it
pub record LineDone : Type 0 where
  pub now : Managed
  pub outcome : LineOutcome

-- before any line
abbrev pub managed_opening : Header → Managed
managed_opening h = record { state = opening_manager (shape_of h); decisions = 0; next = 1; crash = None }

-- an input is kept, and what the manager sends goes out
abbrev pub input_kept : Managed → Moved ManagerState → LineDone
input_kept m r = record {
  now = record m { state = r.state; decisions = m.decisions + 1; next = m.next + length r.messages };
  outcome = outcome.Done r.messages;
}

-- an input is stopped: it is kept or lost, nothing goes out, and the crash is over
abbrev pub input_stopped : Managed → Moved ManagerState → Bool → LineDone
input_stopped m r true = record { now = record m { state = r.state; decisions = m.decisions + 1; crash = None }; outcome = outcome.Stopped true }
input_stopped m r false = record { now = record m { crash = None }; outcome = outcome.Stopped false }

-- An input is kept in four calls: its record is written, and synced, the commit byte before it is opened, and that is synced. Where
-- the last of them is stopped, and what isn't synced outlives the crash, the input does.
abbrev pub keeps_input : Crash → Bool
keeps_input c = (c.call == 4) && c.kept

-- the manager accepts an input: a crash to come stops it
abbrev pub input_accepted : Managed → Moved ManagerState → Option Crash → LineDone
input_accepted m r None = input_kept m r
input_accepted m r (Some c) = input_stopped m r (keeps_input c)

-- the manager refuses an order: nothing changes, and a crash is still to come
abbrev pub input_refused : Managed → ℕ → LineDone
input_refused m number = record { now = m; outcome = outcome.Refused number }

-- the manager gets an input
unfoldable pub input_given : Managed → Input → LineDone
input_given m i =
    let r = manager_input m.state i in
    if r.refused == 0 then input_accepted m r m.crash else input_refused m r.refused

-- a crash is to come, in place of one that was to come before
abbrev pub crash_ordered : Managed → Crash → LineDone
crash_ordered m c = record { now = record m { crash = Some c }; outcome = outcome.Done [] }

-- the message by which the first master says that it has recovered a partition
abbrev pub recovered_by_first : ℕ → ℕ → Message
recovered_by_first part epoch = says (master_node 1) manager_node (body.Recovered (record { part = part; epoch = epoch }))

-- what a line does
unfoldable pub line_done : Managed → ManageLine → LineDone
line_done m (line.Order order) = input_given m (input.Local order)
line_done m (line.Recovered part epoch) = input_given m (input.Message (recovered_by_first part epoch))
line_done m (line.Crash call kept) = crash_ordered m (record { call = call; kept = kept })
