-- Who says what to whom: the kinds of the sender and of the addressee of each message, to which client an answer goes, and by
-- which lists masters and clients go.
use Rattle.std.specs.Prelude.{◌≡◌, ℕ, List, Option, Some, None, ⊤}
use Rattle.curp_base.specs.Words.{Each, numbered}
use Rattle.curp_cmd.specs.Node.{client_node, manager_node, master_node}
use Rattle.curp_cmd.specs.declared.command.Request.{Request}
use Rattle.curp_cmd.specs.declared.entry.Entry.{Entry}
use Rattle.curp_cmd.specs.declared.entry.Entry.TheVariants.{Op}
use Rattle.curp_cmd.specs.declared.node.NodeId.{NodeId}
use Rattle.curp_cmd.specs.declared.node.NodeKind.{NodeKind}
use Rattle.curp_cmd.specs.declared.node.NodeKind.TheVariants as kind
use Rattle.curp_msg.specs.Moved.{says}
use Rattle.curp_msg.specs.declared.answer.FenceReply.{FenceReply}
use Rattle.curp_msg.specs.declared.answer.FenceReply.TheVariants.{Log}
use Rattle.curp_msg.specs.declared.answer.GcAnswer.{GcAnswer}
use Rattle.curp_msg.specs.declared.answer.GcAnswer.TheVariants.{Suspects}
use Rattle.curp_msg.specs.declared.body.Body.{Body}
use Rattle.curp_msg.specs.declared.body.Body.TheVariants as body
use Rattle.curp_msg.specs.declared.body.Prepare.{Prepare}
use Rattle.curp_msg.specs.declared.body.Recover.{Recover}
use Rattle.curp_msg.specs.declared.message.Message.{Message}
use Rattle.curp_model.specs.Backup.{BackupState}
use Rattle.curp_model.specs.Client.{ClientState, Pending}
use Rattle.curp_model.specs.Master.{Captured, MasterState, Open, Phase, Switching}
use Rattle.curp_model.specs.Named.{IsNode, IsNodeOf}
use Rattle.curp_model.specs.Recovery.{Asking, Fresh, MasterStage, Recovering, RecoveryPhase, RecoveryState, Serving, Storing, Waiting}
use Rattle.curp_model.specs.Witness.{HeldRequest, WitnessState}
use Rattle.curp_model.specs.World.{World, messages}
use Rattle.curp_facts.specs.Facts.{AttemptWas, IsGiven, Lists, WasSent, hi_of, lo_of}
use Rattle.curp_facts.specs.Kept.{lists_of_master}
use Rattle.curp_facts.specs.Names.{ConfigurationOk, IsOf}

-- ---- kinds

-- which kind of node says it
abbrev pub sender_kind : Body → NodeKind
sender_kind (body.Update ask) = kind.Client
sender_kind (body.Sync ask) = kind.Client
sender_kind (body.Read ask) = kind.Client
sender_kind (body.Record r) = kind.Client
sender_kind body.Fetch = kind.Client
sender_kind (body.Configuration config) = kind.Manager
sender_kind (body.Reply r) = kind.Master
sender_kind (body.Worth v) = kind.Master
sender_kind (body.Refuse r) = kind.Master
sender_kind (body.Accepted a) = kind.Witness
sender_kind (body.Rejected r) = kind.Witness
sender_kind (body.Append a) = kind.Master
sender_kind (body.Appended a) = kind.Backup
sender_kind (body.Gc g) = kind.Master
sender_kind (body.Collected c) = kind.Witness
sender_kind (body.Install epoch) = kind.Manager
sender_kind (body.Start s) = kind.Manager
sender_kind (body.Recover o) = kind.Manager
sender_kind (body.Fence epoch) = kind.Master
sender_kind (body.FenceAnswer a) = kind.Backup
sender_kind (body.Freeze epoch) = kind.Master
sender_kind (body.FrozenAnswer requests) = kind.Witness
sender_kind (body.Recovered r) = kind.Master
sender_kind (body.Adopted a) = kind.Manager
sender_kind (body.Prepare p) = kind.Manager
sender_kind (body.Prepared version) = kind.Master
sender_kind (body.TakeOut t) = kind.Manager
sender_kind (body.Taken t) = kind.Master
sender_kind (body.GiveIn g) = kind.Manager
sender_kind (body.Given migration) = kind.Master
sender_kind (body.ExpireClient client) = kind.Manager
sender_kind (body.Probe a) = kind.Client
sender_kind (body.Probed a) = kind.Witness
sender_kind (body.Glance ask) = kind.Client
sender_kind (body.Quick q) = kind.Master

-- which kind of node it is said to
abbrev pub addressee_kind : Body → NodeKind
addressee_kind (body.Update ask) = kind.Master
addressee_kind (body.Sync ask) = kind.Master
addressee_kind (body.Read ask) = kind.Master
addressee_kind (body.Record r) = kind.Witness
addressee_kind body.Fetch = kind.Manager
addressee_kind (body.Configuration config) = kind.Client
addressee_kind (body.Reply r) = kind.Client
addressee_kind (body.Worth v) = kind.Client
addressee_kind (body.Refuse r) = kind.Client
addressee_kind (body.Accepted a) = kind.Client
addressee_kind (body.Rejected r) = kind.Client
addressee_kind (body.Append a) = kind.Backup
addressee_kind (body.Appended a) = kind.Master
addressee_kind (body.Gc g) = kind.Witness
addressee_kind (body.Collected c) = kind.Master
addressee_kind (body.Install epoch) = kind.Backup
addressee_kind (body.Start s) = kind.Witness
addressee_kind (body.Recover o) = kind.Master
addressee_kind (body.Fence epoch) = kind.Backup
addressee_kind (body.FenceAnswer a) = kind.Master
addressee_kind (body.Freeze epoch) = kind.Witness
addressee_kind (body.FrozenAnswer requests) = kind.Master
addressee_kind (body.Recovered r) = kind.Manager
addressee_kind (body.Adopted a) = kind.Master
addressee_kind (body.Prepare p) = kind.Master
addressee_kind (body.Prepared version) = kind.Manager
addressee_kind (body.TakeOut t) = kind.Master
addressee_kind (body.Taken t) = kind.Manager
addressee_kind (body.GiveIn g) = kind.Master
addressee_kind (body.Given migration) = kind.Manager
addressee_kind (body.ExpireClient client) = kind.Master
addressee_kind (body.Probe a) = kind.Witness
addressee_kind (body.Probed a) = kind.Client
addressee_kind (body.Glance ask) = kind.Master
addressee_kind (body.Quick q) = kind.Client

-- ---- requests are of clients

-- the request is one of a client of the world
abbrev pub IsOfClient : World → Request → Type 0
IsOfClient w r = IsNodeOf w kind.Client r.id.client

-- the request of an op is
abbrev pub EntryAsked : World → Entry → Type 0
EntryAsked w (Op r acknowledged) = IsOfClient w r
EntryAsked w _ = ⊤

-- those of a backup's log are
abbrev pub ReplyAsked : World → FenceReply → Type 0
ReplyAsked w (Log entries) = Each (EntryAsked w) entries
ReplyAsked w _ = ⊤

-- suspects are
abbrev pub SuspectsAsked : World → GcAnswer → Type 0
SuspectsAsked w (Suspects requests) = Each (IsOfClient w) requests
SuspectsAsked w _ = ⊤

-- ---- what masters say of their orders

-- a partition and an epoch are those of an order to recover that was sent to the master
pub record OrderedTo (w : World) (node : NodeId) (part epoch : ℕ) : Type 0 where
  pub order : Recover
  pub ordered : WasSent w (says manager_node node (body.Recover order))
  pub its_part : part ≡ order.part
  pub its_epoch : epoch ≡ order.epoch

-- a fence goes to the backup that the sender's order names, at the order's epoch
pub record FencesBackup (w : World) (from to : NodeId) (epoch : ℕ) : Type 0 where
  pub order : Recover
  pub ordered : WasSent w (says manager_node from (body.Recover order))
  pub its_epoch : epoch ≡ order.epoch
  pub its_backup : to ≡ order.backup

-- a freeze goes to the witness that the sender's order names, at the order's epoch
pub record FreezesWitness (w : World) (from to : NodeId) (epoch : ℕ) : Type 0 where
  pub order : Recover
  pub ordered : WasSent w (says manager_node from (body.Recover order))
  pub its_epoch : epoch ≡ order.epoch
  pub its_witness : to ≡ order.witness

-- a version is that of new lists that were sent to the master
pub record PreparedTo (w : World) (node : NodeId) (version : ℕ) : Type 0 where
  pub prepare : Prepare
  pub sent : WasSent w (says manager_node node (body.Prepare prepare))
  pub its_version : version ≡ prepare.version

-- ---- messages

-- a client asks for its own requests alone, answers go to the client that asked, other requests that are told are of clients, and
-- masters speak of orders and new lists that were sent to them
abbrev pub BodyFits : World → NodeId → NodeId → Body → Type 0
BodyFits w from to (body.Update ask) = from ≡ client_node ask.request.id.client
BodyFits w from to (body.Sync ask) = from ≡ client_node ask.request.id.client
BodyFits w from to (body.Read ask) = from ≡ client_node ask.request.id.client
BodyFits w from to (body.Glance ask) = from ≡ client_node ask.request.id.client
BodyFits w from to (body.Record r) = from ≡ client_node r.request.id.client
BodyFits w from to (body.Probe a) = from ≡ client_node a.id.client
BodyFits w from to body.Fetch = ⊤
BodyFits w from to (body.Configuration config) = ⊤
BodyFits w from to (body.Reply r) = to ≡ client_node r.id.client
BodyFits w from to (body.Worth v) = to ≡ client_node v.id.client
BodyFits w from to (body.Quick q) = to ≡ client_node q.id.client
BodyFits w from to (body.Refuse r) = to ≡ client_node r.id.client
BodyFits w from to (body.Accepted a) = to ≡ client_node a.id.client
BodyFits w from to (body.Rejected r) = to ≡ client_node r.id.client
BodyFits w from to (body.Probed a) = to ≡ client_node a.id.client
BodyFits w from to (body.Append a) = Each (EntryAsked w) a.entries
BodyFits w from to (body.Appended a) = ⊤
BodyFits w from to (body.Gc g) = ⊤
BodyFits w from to (body.Collected c) = SuspectsAsked w c.answer
BodyFits w from to (body.Install epoch) = ⊤
BodyFits w from to (body.Start s) = ⊤
BodyFits w from to (body.Recover o) = ⊤
BodyFits w from to (body.Fence epoch) = FencesBackup w from to epoch
BodyFits w from to (body.FenceAnswer a) = ReplyAsked w a.answer
BodyFits w from to (body.Freeze epoch) = FreezesWitness w from to epoch
BodyFits w from to (body.FrozenAnswer requests) = Each (IsOfClient w) requests
BodyFits w from to (body.Recovered r) = OrderedTo w from r.part r.epoch
BodyFits w from to (body.Adopted a) = ⊤
BodyFits w from to (body.Prepare p) = ⊤
BodyFits w from to (body.Prepared version) = PreparedTo w from version
BodyFits w from to (body.TakeOut t) = ⊤
BodyFits w from to (body.Taken t) = ⊤
BodyFits w from to (body.GiveIn t) = ⊤
BodyFits w from to (body.Given migration) = ⊤
BodyFits w from to (body.ExpireClient client) = ⊤

-- sender and addressee are nodes of the world, of the kinds that the message is from and for
pub record MessageFits (w : World) (m : Message) : Type 0 where
  pub sender : IsOf w (sender_kind m.body) m.from
  pub addressee : IsOf w (addressee_kind m.body) m.to
  pub fits : BodyFits w m.from m.to m.body

-- ---- nodes

-- a pending request is the client's own, and was sent to adopted lists
pub record PendingFits (w : World) (n : ℕ) (p : Pending) : Type 0 where
  pub own : p.request.id.client ≡ n
  pub attempts : Each (AttemptWas w) p.attempts

-- a client knows a configuration of adopted lists
pub record ClientFits (w : World) (n : ℕ) (c : ClientState) : Type 0 where
  pub config : ConfigurationOk w c.config
  pub pending : Each (PendingFits w n) c.pending

-- the lists that a master takes up next were sent to it
abbrev pub NextSent : World → Lists → Phase → Type 0
NextSent w l Open = ⊤
NextSent w l (Switching s) =
    WasSent w (says manager_node l.master (body.Prepare (record { version = s.version; backups = s.backups; witnesses = s.witnesses })))

-- the lists, the range, the log and the captures of a serving master: the lists were given, and the range is that of the opening
pub record ServesBy (w : World) (l : Lists) (lo hi : ℕ) (log : List Entry) (captures : List Captured) (phase : Phase) : Type 0 where
  pub given : IsGiven w l
  pub next : NextSent w l phase
  pub its_lo : lo ≡ lo_of w l.part
  pub its_hi : hi ≡ hi_of w l.part
  pub entries : Each (EntryAsked w) log
  pub reads : Each (λ (c : Captured). IsNodeOf w kind.Client c.id.client) captures

-- a serving master
abbrev pub ServingFits : World → ℕ → MasterState → Type 0
ServingFits w n m = ServesBy w (lists_of_master (master_node n) m) m.lo m.hi m.log m.captures m.phase

-- the entries and the requests of a recovery, as far as it has them
abbrev pub LogThere : World → Option (List Entry) → Type 0
LogThere w None = ⊤
LogThere w (Some entries) = Each (EntryAsked w) entries

abbrev pub RequestsThere : World → Option (List Request) → Type 0
RequestsThere w None = ⊤
RequestsThere w (Some requests) = Each (IsOfClient w) requests

abbrev pub PhaseFits : World → RecoveryPhase → Type 0
PhaseFits w (Asking log requests) = LogThere w log × RequestsThere w requests
PhaseFits w (Storing r) = Each (EntryAsked w) r.log
PhaseFits w (Waiting r) = Each (EntryAsked w) r.log

-- a recovering master has its order from the manager
pub record RecoveringFits (w : World) (n : ℕ) (s : RecoveryState) : Type 0 where
  pub ordered : WasSent w (says manager_node (master_node n) (body.Recover s.order))
  pub phase : PhaseFits w s.phase

-- a master, by how far it is
abbrev pub MasterFits : World → ℕ → MasterStage → Type 0
MasterFits w n Fresh = ⊤
MasterFits w n (Recovering s) = RecoveringFits w n s
MasterFits w n (Serving m) = ServingFits w n m

-- a backup's log
abbrev pub BackupFits : World → BackupState → Type 0
BackupFits w b = Each (EntryAsked w) b.log

-- what a witness holds
abbrev pub WitnessFits : World → WitnessState → Type 0
WitnessFits w x = Each (λ (h : HeldRequest). IsOfClient w h.request) x.held

-- ---- all together

-- what holds of messages and nodes after every step
pub record Nodes (w : World) : Type 0 where
  pub said : Each (MessageFits w) (messages w)
  pub clients : (n : ℕ) (c : ClientState) → numbered w.clients n ≡ Some c → ClientFits w n c
  pub masters : (n : ℕ) (m : MasterStage) → numbered w.masters n ≡ Some m → MasterFits w n m
  pub backups : (n : ℕ) (b : BackupState) → numbered w.backups n ≡ Some b → BackupFits w b
  pub witnesses : (n : ℕ) (x : WitnessState) → numbered w.witnesses n ≡ Some x → WitnessFits w x

-- a message goes from a node of the world to a node of the world
pub record IsBetweenNodes (w : World) (m : Message) : Type 0 where
  pub sender : IsNode w m.from
  pub addressee : IsNode w m.to

-- an answer to a client goes to the client whose request it is about
abbrev pub GoesHome : NodeId → Body → Type 0
GoesHome to (body.Update ask) = ⊤
GoesHome to (body.Sync ask) = ⊤
GoesHome to (body.Read ask) = ⊤
GoesHome to (body.Glance ask) = ⊤
GoesHome to (body.Record r) = ⊤
GoesHome to (body.Probe p) = ⊤
GoesHome to body.Fetch = ⊤
GoesHome to (body.Configuration config) = ⊤
GoesHome to (body.Reply r) = to ≡ client_node r.id.client
GoesHome to (body.Worth v) = to ≡ client_node v.id.client
GoesHome to (body.Quick q) = to ≡ client_node q.id.client
GoesHome to (body.Refuse r) = to ≡ client_node r.id.client
GoesHome to (body.Accepted a) = to ≡ client_node a.id.client
GoesHome to (body.Rejected r) = to ≡ client_node r.id.client
GoesHome to (body.Probed a) = to ≡ client_node a.id.client
GoesHome to (body.Append a) = ⊤
GoesHome to (body.Appended a) = ⊤
GoesHome to (body.Gc g) = ⊤
GoesHome to (body.Collected c) = ⊤
GoesHome to (body.Install epoch) = ⊤
GoesHome to (body.Start s) = ⊤
GoesHome to (body.Recover o) = ⊤
GoesHome to (body.Fence epoch) = ⊤
GoesHome to (body.FenceAnswer a) = ⊤
GoesHome to (body.Freeze epoch) = ⊤
GoesHome to (body.FrozenAnswer requests) = ⊤
GoesHome to (body.Recovered r) = ⊤
GoesHome to (body.Adopted a) = ⊤
GoesHome to (body.Prepare p) = ⊤
GoesHome to (body.Prepared version) = ⊤
GoesHome to (body.TakeOut t) = ⊤
GoesHome to (body.Taken t) = ⊤
GoesHome to (body.GiveIn t) = ⊤
GoesHome to (body.Given migration) = ⊤
GoesHome to (body.ExpireClient client) = ⊤
