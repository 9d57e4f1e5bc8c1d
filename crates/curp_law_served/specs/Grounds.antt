-- What the law takes from what is kept by every script: bounds, logs of ops alone, what the table says of a request
-- that isn't completed, and the nodes of the present lists.
use Rattle.std.specs.Prelude.{◌≡◌, ◌≤◌, ℕ, ◌+◌, true, [], ◌∷◌, length, Some, ⊤}
use Rattle.curp_base.specs.Words.{At, numbered}
use Rattle.curp_cmd.specs.Hash.{hashes}
use Rattle.curp_cmd.specs.Node.{backup_node, client_node, witness_node}
use Rattle.curp_cmd.specs.declared.command.Request.{Request}
use Rattle.curp_cmd.specs.declared.command.RequestId.{RequestId}
use Rattle.curp_cmd.specs.declared.entry.Entry.{Entry}
use Rattle.curp_cmd.specs.declared.entry.Entry.TheVariants.{Op}
use Rattle.curp_cmd.specs.declared.node.NodeId.{NodeId}
use Rattle.curp_cmd.specs.declared.node.NodeKind.TheVariants as kind
use Rattle.curp_msg.specs.declared.config.PartConfig.{PartConfig}
use Rattle.curp_msg.specs.declared.message.Message.{Message}
use Rattle.curp_facts.specs.Facts.{IsAmong}
use Rattle.curp_model.specs.Backup.{BackupState}
use Rattle.curp_model.specs.declared.Check.{Check}
use Rattle.curp_model.specs.declared.Check.TheVariants.{Known, New}
use Rattle.curp_model.specs.Client.{ClientState, Pending}
use Rattle.curp_model.specs.Log.{IsOp}
use Rattle.curp_model.specs.Master.{MasterState, from_backup, last_round, state_of, synced}
use Rattle.curp_model.specs.Ranges.{owns_all}
use Rattle.curp_model.specs.Table.{check}
use Rattle.curp_model.specs.Witness.{WitnessState}
use Rattle.curp_model.specs.World.{World}
use Rattle.curp_law_served.specs.Calm.{Calm, IsUndelivered}

-- what a master knows of its backups is within its log and its rounds, and it has backups
pub record Bounded (m : MasterState) : Type 0 where
  pub some : 1 ≤ length m.backups
  pub within : synced m ≤ length m.log
  pub begun : (b : NodeId) → (from_backup m.acknowledged b).round ≤ m.round

-- its round and its captures can rise
pub record Roomy (m : MasterState) : Type 0 where
  pub round : m.round + 1 ≤ last_round
  pub captured : m.captured + 1 ≤ last_round

-- the table knows nothing of the request that isn't an Op of it, and it isn't stale
abbrev pub IsFine : MasterState → RequestId → Check → Type 0
IsFine m id (Known a index) = (r : Request) × (acknowledged : ℕ) × At m.log index (Op r acknowledged) × (r.id ≡ id)
IsFine m id New = ⊤
IsFine m id _ = ⊥

-- what the master's table and ranges say of a request that isn't completed
pub record Welcome (m : MasterState) (r : Request) : Type 0 where
  pub fine : IsFine m r.id (check (state_of m).table r.id)
  pub owns : owns_all (state_of m).owned (hashes r.command) ≡ true

-- a backup of the present list: it takes appends of the epoch, and has what is known of it
pub record IsOurs (w : World) (c : PartConfig) (m : MasterState) (k : NodeId) : Type 0 where
  pub name : k ≡ backup_node k.number
  pub b : BackupState
  pub is : numbered w.backups k.number ≡ Some b
  pub fence : b.fence ≤ c.epoch
  pub installed : b.installed ≡ Some c.epoch
  pub known : (from_backup m.acknowledged k).length ≤ length b.log

-- a witness of the present list is there
pub record IsOurWitness (w : World) (k : NodeId) : Type 0 where
  pub name : k ≡ witness_node k.number
  pub x : WitnessState
  pub is : numbered w.witnesses k.number ≡ Some x

-- what is used of what holds of every script
pub record Grounds (w : World) (done : ℕ) (c : PartConfig) (m : MasterState) (cl : ClientState) : Type 0 where
  pub bounded : Bounded m
  pub roomy : Roomy m
  pub ops : (index : ℕ) (e : Entry) → At m.log index e → IsOp e
  pub welcome : (p : Pending) → cl.pending ≡ p ∷ [] → Welcome m p.request
  pub backups : (k : NodeId) → IsAmong k c.backups → IsOurs w c m k
  pub witnesses : (k : NodeId) → IsAmong k c.witnesses → IsOurWitness w k
  pub client : (x : Message) → IsUndelivered w done x → x.to.kind ≡ kind.Client → x.to ≡ client_node 1

-- the world is calm, with some master and some client
abbrev pub IsCalm : World → ℕ → PartConfig → ℕ → Type 0
IsCalm w done c q = (m : MasterState) × (cl : ClientState) × Calm w done c q m cl
