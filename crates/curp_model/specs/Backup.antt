-- The backup: it keeps the entries of a master of its epoch, and takes nothing of an epoch below its fence (the fence is
-- this project's form of what keeps superseded masters out).
use Rattle.std.specs.Prelude.{ℕ, ◌-◌, ◌==◌, nat_lt, if◌then◌else◌, Bool, false, not, List, [], ◌∷◌, ◌++◌, length, drop, Option, Some, None}
use Rattle.curp_cmd.specs.Node.{backup_node}
use Rattle.curp_cmd.specs.declared.entry.Entry.{Entry}
use Rattle.curp_cmd.specs.declared.node.NodeId.{NodeId}
use Rattle.curp_msg.specs.Moved.{Moved, quiet, sends, says}
use Rattle.curp_msg.specs.declared.answer.AppendAnswer.{AppendAnswer}
use Rattle.curp_msg.specs.declared.answer.AppendAnswer.TheVariants.{Stored, Fenced, Gap, NotInstalled}
use Rattle.curp_msg.specs.declared.answer.FenceReply.{FenceReply}
use Rattle.curp_msg.specs.declared.answer.FenceReply.TheVariants as reply
use Rattle.curp_msg.specs.declared.body.Body.{Body}
use Rattle.curp_msg.specs.declared.body.Body.TheVariants.{Append, Appended, Install, Fence, FenceAnswer}
use Rattle.curp_msg.specs.Input.{Input}
use Rattle.curp_msg.specs.Input as input

-- the epoch at which it is installed, if it is
pub record BackupState : Type 0 where
  pub installed : Option ℕ
  pub fence : ℕ
  pub log : List Entry

-- before it is installed
abbrev pub fresh_backup : BackupState
fresh_backup = record { installed = None; fence = 0; log = [] }

-- as at opening: installed, with nothing yet
abbrev pub installed_backup : ℕ → BackupState
installed_backup epoch = record { installed = Some epoch; fence = 0; log = [] }

-- ---- install

-- an epoch stays for good
abbrev pub installed_once : BackupState → ℕ → Option ℕ → BackupState
installed_once b epoch None = record b { installed = Some epoch }
installed_once b epoch (Some own) = b

-- one that isn't installed yet is installed, unless its fence is above
abbrev pub install : BackupState → ℕ → BackupState
install b epoch = if nat_lt epoch b.fence then b else installed_once b epoch b.installed

-- ---- append

-- it serves a master of that epoch
abbrev pub is_installed_at : Option ℕ → ℕ → Bool
is_installed_at None epoch = false
is_installed_at (Some own) epoch = own == epoch

-- the log after entries that stand in the master's log from base on: those past its own length are added
abbrev pub longer : List Entry → ℕ → List Entry → List Entry
longer log base entries = log ++ drop (length log - base) entries

-- what a backup does on an append, and answers to it
pub record AfterAppend : Type 0 where
  pub state : BackupState
  pub answer : AppendAnswer

-- nothing changes
abbrev pub refuses_entries : BackupState → AppendAnswer → AfterAppend
refuses_entries b why = record { state = b; answer = why }

-- the entries past its length are added
abbrev pub stores : BackupState → List Entry → AfterAppend
stores b log = record { state = record b { log = log }; answer = Stored (length log) }

-- first Fenced, then NotInstalled, then Gap, and Stored where none of them holds
unfoldable pub append : BackupState → ℕ → ℕ → List Entry → AfterAppend
append b epoch base entries =
    if nat_lt epoch b.fence then refuses_entries b (Fenced b.fence)
    else if not (is_installed_at b.installed epoch) then refuses_entries b NotInstalled
    else if nat_lt (length b.log) base then refuses_entries b (Gap (length b.log))
    else stores b (longer b.log base entries)

-- ---- fence

-- what a backup does on a fence, and answers to it
pub record AfterFence : Type 0 where
  pub state : BackupState
  pub answer : FenceReply

-- the whole log, unless its fence is above
unfoldable pub fence : BackupState → ℕ → AfterFence
fence b epoch =
    if nat_lt epoch b.fence then record { state = b; answer = reply.Fenced b.fence }
    else record { state = record b { fence = epoch }; answer = reply.Log b.log }

-- ---- messages

-- a message comes to backup n. Its answers bear the epoch, and the round, of what they answer
unfoldable pub on_backup : ℕ → BackupState → NodeId → Body → Moved BackupState
on_backup n b from (Append a) =
    let k = append b a.epoch a.base a.entries in
    sends k.state (says (backup_node n) from (Appended (record { epoch = a.epoch; round = a.round; answer = k.answer })) ∷ [])
on_backup n b from (Install epoch) = quiet (install b epoch)
on_backup n b from (Fence epoch) =
    let f = fence b epoch in
    sends f.state (says (backup_node n) from (FenceAnswer (record { epoch = epoch; answer = f.answer })) ∷ [])
on_backup n b from _ = quiet b

-- an input comes to backup n, which ignores all orders
abbrev pub backup_input : ℕ → BackupState → Input → Moved BackupState
backup_input n b (input.Local order) = quiet b
backup_input n b (input.Message m) = on_backup n b m.from m.body
