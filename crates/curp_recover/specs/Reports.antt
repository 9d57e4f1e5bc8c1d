-- A recovery whose named backup and witness answer, and whose fresh backups store the whole log.
use Rattle.std.specs.Prelude.{◌≡◌, ◌⊎◌, ℕ, ◌≤◌, Bool, true, List, [], ◌∷◌, length, map}
use Rattle.std.specs.List.{list_all}
use Rattle.curp_base.specs.Words.{Each}
use Rattle.curp_cmd.specs.Node.{is_among, manager_node}
use Rattle.curp_cmd.specs.declared.command.Request.{Request}
use Rattle.curp_cmd.specs.declared.entry.Entry.{Entry}
use Rattle.curp_cmd.specs.declared.node.NodeId.{NodeId}
use Rattle.curp_model.specs.Recovery.{MasterStage, Fresh, Replayed, on_master, replay}
use Rattle.curp_msg.specs.declared.answer.AppendAnswer.TheVariants.{Stored}
use Rattle.curp_msg.specs.declared.answer.FenceReply.TheVariants.{Log}
use Rattle.curp_msg.specs.declared.body.Body.{Body}
use Rattle.curp_msg.specs.declared.body.Body.TheVariants as body
use Rattle.curp_msg.specs.declared.body.Recover.{Recover}
use Rattle.curp_msg.specs.declared.body.Recovered.{Recovered}
use Rattle.curp_msg.specs.Input.{Input}
use Rattle.curp_msg.specs.Input as input
use Rattle.curp_msg.specs.declared.message.Message.{Message}
use Rattle.curp_msg.specs.Moved.{says}

-- ---- messages

-- the named backup's log
abbrev pub log_answer : ℕ → List Entry → Body
log_answer epoch entries = body.FenceAnswer (record { epoch = epoch; answer = Log entries })

-- a backup says that it has stored so much
pub record StoredAnswer : Type 0 where
  pub backup : NodeId
  pub epoch : ℕ
  pub round : ℕ
  pub length : ℕ

abbrev pub stored_answer : StoredAnswer → Body
stored_answer a = body.Appended (record { epoch = a.epoch; round = a.round; answer = Stored a.length })

-- ---- the master

-- master n with its order
abbrev pub ordered : ℕ → Recover → MasterStage
ordered n o = (on_master n Fresh manager_node (body.Recover o)).state

-- and with what the named backup and the named witness hold
abbrev pub answered : ℕ → Recover → ℕ → List Entry → List Request → MasterStage
answered n o epoch entries requests =
    (on_master n (on_master n (ordered n o) o.backup (log_answer epoch entries)).state o.witness (body.FrozenAnswer requests)).state

-- after what backups say, in that order
abbrev pub after_stored : ℕ → MasterStage → List StoredAnswer → MasterStage
after_stored n m [] = m
after_stored n m (a ∷ more) = after_stored n (on_master n m a.backup (stored_answer a)).state more

-- what it stores
abbrev pub replayed_log : Recover → List Entry → List Request → Replayed
replayed_log o entries requests = record { log = replay o.lo o.hi entries requests; cut = length entries; round = 1; complete = [] }

-- ---- premises

-- a fresh backup of the order has the whole log
pub record IsWhole (o : Recover) (entries : List Entry) (requests : List Request) (a : StoredAnswer) : Type 0 where
  pub fresh : is_among a.backup o.backups ≡ true
  pub whole : length (replay o.lo o.hi entries requests) ≤ a.length

-- each fresh backup has said so
abbrev pub all_stored : Recover → List StoredAnswer → Bool
all_stored o answers = list_all (λ b. is_among b (map (λ (a : StoredAnswer). a.backup) answers)) o.backups

-- ---- any input, while it stores

-- a fresh backup says that it has the whole log, and each other one has said so before
pub record IsLastStored (o : Recover) (r : Replayed) (given : Input) : Type 0 where
  pub answer : StoredAnswer
  pub to : NodeId
  pub comes : given ≡ input.Message (says answer.backup to (stored_answer answer))
  pub fresh : is_among answer.backup o.backups ≡ true
  pub whole : length r.log ≤ answer.length
  pub others : Each (λ (b : NodeId). (is_among b r.complete ≡ true) ⊎ (b ≡ answer.backup)) o.backups

-- the message reports that a partition is recovered
abbrev pub IsReport : Message → Type 0
IsReport m = (r : Recovered) × (m.body ≡ body.Recovered r)
