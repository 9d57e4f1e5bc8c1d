-- What a run of `manage` keeps: a journal of the inputs that are kept.
use Rattle.std.specs.Prelude.{◌≡◌, ℕ, ◌+◌, ◌*◌, ◌==◌, ◌≤◌, ◌<◌, ◌^◌, false, if◌then◌else◌, List, [], ◌∷◌, length, Option, Some, None, option_map, ⊤}
use Rattle.curp_batches.specs.Arrivals.{arrival}
use Rattle.curp_cmd.specs.Node.{manager_node, master_node}
use Rattle.curp_disk.specs.Calls.{seen_of}
use Rattle.curp_disk.specs.InMemory.{StopParts}
use Rattle.curp_durable.specs.Answering.{record_of}
use Rattle.curp_durable.specs.Journal.{HoldsUpTo, IsSettled}
use Rattle.curp_durable.specs.Opening.{LedTo}
use Rattle.curp_durable.specs.Stopping.{StopLeaves, stop_seen}
use Rattle.curp_durable.specs.Value.{CheckpointParts, DurableParts, checkpoint_of}
use Rattle.curp_journal.specs.Given.{stamp_of}
use Rattle.curp_journal.specs.declared.arrived.Arrived.{Arrived}
use Rattle.curp_journal.specs.declared.arrived.Arrived.TheVariants as arrived
use Rattle.curp_manage.specs.Managed.{LineDone, Managed, recovered_by_first}
use Rattle.curp_manage.specs.declared.managing.Crash.{Crash}
use Rattle.curp_manage.specs.declared.outcome.LineOutcome.{LineOutcome}
use Rattle.curp_manage.specs.declared.outcome.LineOutcome.TheVariants as outcome
use Rattle.curp_model.specs.Manager.{ManagerState, opening_manager}
use Rattle.curp_model.specs.World.{shape_of}
use Rattle.curp_msg.specs.declared.machine.Done.{Done}
use Rattle.curp_msg.specs.declared.script.Header.{Header}
use Rattle.curp_config.specs.Machine.{manager_machine}
use Rattle.curp_title.specs.Title.{title_bytes}

-- ---- the journal

-- the title of the manager's journal
abbrev pub title_for : Header → List ℕ
title_for h = title_bytes (record { node = manager_node; header = h })

-- the journal on its disk has these inputs, and they led the manager of the header to where it stands
abbrev pub Keeps : Header → DurableParts ManagerState StopParts → List Arrived → Type 0
Keeps h d inputs = IsSettled manager_machine stop_seen StopLeaves d.disk d.stand d.commit (title_for h) (opening_manager (shape_of h)) inputs

-- what a disk reads as is a journal of these inputs, whose last commit byte stands here
abbrev pub IsJournalOn : Header → StopParts → List Arrived → ℕ → Type 0
IsJournalOn h disk inputs commit = HoldsUpTo (seen_of disk.played) (title_for h) inputs commit

abbrev pub HasJournal : Header → StopParts → Type 0
HasJournal h disk = (inputs : List Arrived) × (commit : ℕ) × IsJournalOn h disk inputs commit

-- A crash left a journal, in which all stands that led the manager to a checkpoint
pub record IsLeft (h : Header) (disk : StopParts) (checkpoint : CheckpointParts ManagerState) : Type 0 where
  pub journal : HasJournal h disk
  pub led : LedTo manager_machine (seen_of disk.played) (title_for h) (opening_manager (shape_of h)) checkpoint

-- how many bytes a journal may have
abbrev pub size_limit : ℕ
size_limit = 2 ^ 30

-- such a journal was opened, on a disk that isn't armed
pub record IsOpenedAgain (h : Header) (d : DurableParts ManagerState StopParts) (inputs : List Arrived) (commit : ℕ) : Type 0 where
  pub fresh : d.spent ≡ false
  pub limit : d.size_limit ≡ size_limit
  pub keeps : Keeps h d inputs
  pub commit_is : d.commit ≡ commit
  pub disarmed : d.disk.armed ≡ None

-- it has an encoding, its record has at most 128 bytes, and it came with no stamp
pub record IsSmallInput (a : Arrived) : Type 0 where
  pub fits : arrival.Fits a
  pub short : length (record_of (a ∷ [])) ≤ 128
  pub unstamped : stamp_of a ≡ 0

-- The message of a line as it comes: under a name that no item has, since items and places count from 1
abbrev pub recovered_arrived : ℕ → ℕ → Arrived
recovered_arrived part epoch = arrived.Message (record { from = master_node 1; step = 0; place = 0; stamp = 0; message = recovered_by_first part epoch })

-- there are no more than sixteen partitions, of no more than five backups
pub record HasFewNodes (h : Header) : Type 0 where
  pub f : h.f ≤ 5
  pub parts : h.parts ≤ 16

-- ---- a crash to come

-- a crash is at one of the four calls that keep an input
abbrev pub IsAtCall : Option Crash → Type 0
IsAtCall None = ⊤
IsAtCall (Some c) = (1 ≤ c.call) × (c.call ≤ 4)

-- the call of the disk at which it is to stop
abbrev pub stop_call : Option Crash → Option ℕ
stop_call crash = option_map (λ (c : Crash). c.call) crash

-- where the manager stands, if a crash is to come
abbrev pub standby_of : DurableParts ManagerState StopParts → Option Crash → Option (CheckpointParts ManagerState)
standby_of d crash = option_map (λ (c : Crash). checkpoint_of d) crash

-- ---- the manager with its journal

-- The journal has what led the manager to where it stands, all of it small, and its disk stops where the crash to come says
pub record IsManaged (h : Header) (d : DurableParts ManagerState StopParts) (crash : Option Crash) : Type 0 where
  pub few : HasFewNodes h
  pub inputs : List Arrived
  pub fresh : d.spent ≡ false
  pub limit : d.size_limit ≡ size_limit
  pub keeps : Keeps h d inputs
  pub short : d.commit ≤ 36 + 128 * d.stand.count
  pub stamps : d.stand.last ≡ d.stand.count
  pub armed : d.disk.armed ≡ stop_call crash
  pub at_call : IsAtCall crash

-- the manager did this: its messages go out, or nothing has changed
abbrev pub done_told : Managed → Done → LineDone
done_told m done =
    if done.refused == 0 then record { now = record m { next = m.next + length done.sent }; outcome = outcome.Done done.sent }
    else record { now = m; outcome = outcome.Refused done.refused }

-- the numbers of the messages that went out fit
abbrev pub IsNumberedBy : ℕ → LineOutcome → Type 0
IsNumberedBy first (outcome.Done messages) = first + length messages < 2 ^ 64
IsNumberedBy first (outcome.Refused n) = ⊤
IsNumberedBy first (outcome.Stopped kept) = ⊤
