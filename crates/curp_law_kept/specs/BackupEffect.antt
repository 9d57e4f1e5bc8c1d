-- What one input does to a backup.
use Rattle.std.specs.Prelude.{◌≡◌, ◌≤◌, ◌<◌, ℕ, ◌+◌, List, length, Some, None, ⊤}
use Rattle.curp_base.specs.Words.{Each}
use Rattle.curp_cmd.specs.Node.{backup_node}
use Rattle.curp_cmd.specs.declared.entry.Entry.{Entry}
use Rattle.curp_cmd.specs.declared.node.NodeId.{NodeId}
use Rattle.curp_msg.specs.Moved.{Moved}
use Rattle.curp_msg.specs.declared.answer.AppendAnswer.{AppendAnswer}
use Rattle.curp_msg.specs.declared.answer.AppendAnswer.TheVariants.{Stored}
use Rattle.curp_msg.specs.declared.answer.FenceReply.{FenceReply}
use Rattle.curp_msg.specs.declared.answer.FenceReply.TheVariants.{Log, Fenced}
use Rattle.curp_msg.specs.declared.body.Append.{Append}
use Rattle.curp_msg.specs.declared.body.Appended.{Appended}
use Rattle.curp_msg.specs.declared.body.Body.{Body}
use Rattle.curp_msg.specs.declared.body.Body.TheVariants as body
use Rattle.curp_msg.specs.declared.body.FenceAnswer.{FenceAnswer}
use Rattle.curp_msg.specs.Input.{Input}
use Rattle.curp_msg.specs.Input as input
use Rattle.curp_msg.specs.declared.message.Message.{Message}
use Rattle.curp_model.specs.Backup.{BackupState, longer}
use Rattle.curp_law_kept.specs.Brought.{Brings}

-- ---- its state

-- one that isn't installed is installed at an epoch that isn't below its fence
pub record Installs (given : Input) (b c : BackupState) : Type 0 where
  pub from : NodeId
  pub epoch : ℕ
  pub came : Brings given from (body.Install epoch)
  pub not_yet : b.installed ≡ None
  pub not_fenced : b.fence ≤ epoch
  pub after : c ≡ record b { installed = Some epoch }

-- the entries of an append of its own epoch, not below its fence and with no gap, come behind its log
pub record Extends (given : Input) (b c : BackupState) : Type 0 where
  pub from : NodeId
  pub append : Append
  pub came : Brings given from (body.Append append)
  pub own_epoch : b.installed ≡ Some append.epoch
  pub not_fenced : b.fence ≤ append.epoch
  pub no_gap : append.base ≤ length b.log
  pub after : c ≡ record b { log = longer b.log append.base append.entries }

-- its fence rises to an epoch that isn't below it
pub record RaisesFence (given : Input) (b c : BackupState) : Type 0 where
  pub from : NodeId
  pub epoch : ℕ
  pub came : Brings given from (body.Fence epoch)
  pub not_fenced : b.fence ≤ epoch
  pub after : c ≡ record b { fence = epoch }

-- what an input leaves of a backup: its state, or one of these three
pub data BackupMove (given : Input) (b c : BackupState) : Type 0 where
  Rests : c ≡ b → BackupMove given b c
  ByInstall : Installs given b c → BackupMove given b c
  ByAppend : Extends given b c → BackupMove given b c
  ByFence : RaisesFence given b c → BackupMove given b c

-- ---- what it says

-- its log has at least that length, which reaches to the end of the append, and it is installed at the append's epoch
pub record SaysStored (c : BackupState) (append : Append) (long : ℕ) : Type 0 where
  pub long_enough : long ≤ length c.log
  pub reaches : append.base + length append.entries ≤ long
  pub own_epoch : c.installed ≡ Some append.epoch
  pub not_fenced : c.fence ≤ append.epoch

-- by the answer
abbrev pub AppendAnswerSays : BackupState → Append → AppendAnswer → Type 0
AppendAnswerSays c append (Stored long) = SaysStored c append long
AppendAnswerSays c append _ = ⊤

-- an append came from the node that is answered, of that epoch and round
pub record AppendedSays (given : Input) (c : BackupState) (to : NodeId) (a : Appended) : Type 0 where
  pub append : Append
  pub came : Brings given to (body.Append append)
  pub epoch : a.epoch ≡ append.epoch
  pub round : a.round ≡ append.round
  pub answer : AppendAnswerSays c append a.answer

-- the whole log, and its fence is at that epoch from then on
pub record LogSays (c : BackupState) (epoch : ℕ) (entries : List Entry) : Type 0 where
  pub its_log : entries ≡ c.log
  pub fenced : c.fence ≡ epoch

-- by the answer
abbrev pub FenceReplySays : BackupState → ℕ → FenceReply → Type 0
FenceReplySays c epoch (Log entries) = LogSays c epoch entries
FenceReplySays c epoch (Fenced fence) = (c.fence ≡ fence) × (epoch < fence)

-- a fence of that epoch came from the node that is answered
pub record FenceAnswerSays (given : Input) (c : BackupState) (to : NodeId) (a : FenceAnswer) : Type 0 where
  pub came : Brings given to (body.Fence a.epoch)
  pub answer : FenceReplySays c a.epoch a.answer

-- it answers appends and fences alone
abbrev pub BackupAnswers : Input → BackupState → NodeId → Body → Type 0
BackupAnswers given c to (body.Appended a) = AppendedSays given c to a
BackupAnswers given c to (body.FenceAnswer a) = FenceAnswerSays given c to a
BackupAnswers given c to _ = ⊥

-- a message of backup n
pub record BackupSays (n : ℕ) (given : Input) (c : BackupState) (x : Message) : Type 0 where
  pub sender : x.from ≡ backup_node n
  pub says_so : BackupAnswers given c x.to x.body

-- what an input does to backup n
pub record BackupEffect (n : ℕ) (given : Input) (b : BackupState) (r : Moved BackupState) : Type 0 where
  pub idle : r.completed ≡ None
  pub obeys : r.refused ≡ 0
  pub move : BackupMove given b r.state
  pub says : Each (BackupSays n given r.state) r.messages
