-- A world that is led to quiet: the first so many messages are delivered, the others are on their way.
use Rattle.std.specs.Prelude.{◌≡◌, ◌≤◌, ℕ, true, [], ◌∷◌, length, Some, ⊤}
use Rattle.curp_base.specs.Words.{At, numbered}
use Rattle.curp_cmd.specs.Node.{client_node, manager_node, master_node}
use Rattle.curp_cmd.specs.declared.node.NodeId.{NodeId}
use Rattle.curp_cmd.specs.declared.node.NodeKind.TheVariants as kind
use Rattle.curp_msg.specs.declared.body.Body.{Body}
use Rattle.curp_msg.specs.declared.body.Body.TheVariants as body
use Rattle.curp_msg.specs.declared.config.PartConfig.{PartConfig}
use Rattle.curp_msg.specs.declared.message.Message.{Message}
use Rattle.curp_msg.specs.declared.script.Protocol.TheVariants.{One}
use Rattle.curp_facts.specs.Facts.{IsAmong}
use Rattle.curp_model.specs.Backup.{BackupState}
use Rattle.curp_model.specs.Client.{ClientState}
use Rattle.curp_model.specs.Master.{MasterState, Open}
use Rattle.curp_model.specs.Recovery.{Serving}
use Rattle.curp_model.specs.World.{World, messages}
use Rattle.curp_law_served.specs.Ways.{MasterGoes, PendsOne}

-- a message was sent and isn't delivered, where the first `done` messages are
abbrev pub IsUndelivered : World → ℕ → Message → Type 0
IsUndelivered w done x = (k : ℕ) × (done ≤ k) × At (messages w) k x

-- what may be on its way, by its kind: to whom it goes, and from whom it comes
abbrev pub FitsIn : PartConfig → NodeId → NodeId → Body → Type 0
FitsIn c from to (body.Update a) = to ≡ c.master
FitsIn c from to (body.Sync a) = to ≡ c.master
FitsIn c from to (body.Read a) = to ≡ c.master
FitsIn c from to (body.Appended a) = to ≡ c.master
FitsIn c from to (body.Collected a) = to ≡ c.master
FitsIn c from to (body.Record r) = IsAmong to c.witnesses × (from ≡ client_node 1)
FitsIn c from to (body.Gc g) = IsAmong to c.witnesses × (from ≡ c.master)
FitsIn c from to (body.Append a) = IsAmong to c.backups × (from ≡ c.master) × (a.epoch ≡ c.epoch)
FitsIn c from to (body.Reply r) = to.kind ≡ kind.Client
FitsIn c from to (body.Worth r) = to.kind ≡ kind.Client
FitsIn c from to (body.Refuse r) = to.kind ≡ kind.Client
FitsIn c from to (body.Accepted r) = to.kind ≡ kind.Client
FitsIn c from to (body.Rejected r) = to.kind ≡ kind.Client
FitsIn c from to (body.Configuration g) = (to.kind ≡ kind.Client) × (g.parts ≡ c ∷ [])
FitsIn c from to body.Fetch = (to ≡ manager_node) × (from ≡ client_node 1)
FitsIn c from to _ = ⊥

-- the message fits
abbrev pub IsAwaited : PartConfig → Message → Type 0
IsAwaited c x = FitsIn c x.from x.to x.body

-- its backup has what an append begins behind
abbrev pub NoGap : World → NodeId → Body → Type 0
NoGap w to (body.Append a) = (b : BackupState) × (numbered w.backups to.number ≡ Some b) × (a.base ≤ length b.log)
NoGap w to _ = ⊤

-- one client, one partition whose entry is c, whose master q serves with state m; nothing that anyone waits for is
-- forgotten
pub record Calm (w : World) (done : ℕ) (c : PartConfig) (q : ℕ) (m : MasterState) (cl : ClientState) : Type 0 where
  pub client : w.clients ≡ cl ∷ []
  pub fast : cl.fast ≡ true
  pub protocol : cl.protocol ≡ One
  pub manager : w.manager.config.parts ≡ c ∷ []
  pub its_master : c.master ≡ master_node q
  pub master : numbered w.masters q ≡ Some (Serving m)
  pub epoch : m.epoch ≡ c.epoch
  pub version : m.version ≡ c.version
  pub backups : m.backups ≡ c.backups
  pub witnesses : m.witnesses ≡ c.witnesses
  pub serves : m.phase ≡ Open
  pub fits : (x : Message) → IsUndelivered w done x → IsAwaited c x
  pub no_gaps : (x : Message) → IsUndelivered w done x → NoGap w x.to x.body
  pub goes : MasterGoes (IsUndelivered w done) q m
  pub pends : PendsOne (IsUndelivered w done) m c cl.pending
