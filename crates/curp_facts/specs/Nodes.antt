-- What the nodes keep, each by what was sent and by what other nodes have.
use Rattle.std.specs.Prelude.{◌≡◌, ◌≤◌, ◌<◌, ◌⊎◌, ℕ, ◌+◌, true, false, List, [], length, map, take, Option, Some, None, ⊤}
use Rattle.std.specs.List.{IsDistinct}
use Rattle.curp_base.specs.Words.{At, Each}
use Rattle.curp_cmd.specs.Hash.{hashes}
use Rattle.curp_cmd.specs.Node.{client_node, manager_node}
use Rattle.curp_cmd.specs.Store as cmd
use Rattle.curp_cmd.specs.declared.command.Answer.{Answer}
use Rattle.curp_cmd.specs.declared.command.Request.{Request}
use Rattle.curp_cmd.specs.declared.command.RequestId.{RequestId}
use Rattle.curp_cmd.specs.declared.entry.Entry.{Entry}
use Rattle.curp_cmd.specs.declared.entry.Entry.TheVariants.{Op}
use Rattle.curp_cmd.specs.declared.node.NodeId.{NodeId}
use Rattle.curp_msg.specs.Moved.{says}
use Rattle.curp_msg.specs.declared.body.Append.{Append}
use Rattle.curp_msg.specs.declared.body.Body.{Body}
use Rattle.curp_msg.specs.declared.body.Body.TheVariants as body
use Rattle.curp_msg.specs.declared.body.Recovered.{Recovered}
use Rattle.curp_msg.specs.declared.body.Worth.{Worth}
use Rattle.curp_order.specs.declared.Event.TheVariants.{Invoke}
use Rattle.curp_model.specs.declared.Mode.TheVariants as mode
use Rattle.curp_model.specs.Backup.{BackupState}
use Rattle.curp_model.specs.Client.{ClientState}
use Rattle.curp_model.specs.Laws.{clash}
use Rattle.curp_model.specs.Log.{entry_touches, meaning}
use Rattle.curp_model.specs.Master.{Acknowledged, Captured, MasterState, Open, Queued, Switch, Switching, from_backup, has, synced}
use Rattle.curp_model.specs.Recovery.{Asking, MasterStage, Fresh, Recovering, RecoveryPhase, RecoveryState, Replayed, Serving, Storing, Waiting, all_complete}
use Rattle.curp_model.specs.Table.{check}
use Rattle.curp_model.specs.Witness.{HeldRequest, WitnessState}
use Rattle.curp_model.specs.World.{World}
use Rattle.curp_facts.specs.ClientNumbers.{ClientNumbersOk}
use Rattle.curp_facts.specs.Evidence.{KnowledgeOk}
use Rattle.curp_facts.specs.Entries.{LogOk, UpdateOk}
use Rattle.curp_facts.specs.Facts.{Completable, EntryWas, FencedLogOk, FrozenOk, IsOnlyExpire, Lists, ReplayOk, WasAdopted, WasSent, hi_of, lo_of}
use Rattle.curp_facts.specs.Kept.{FollowsLog, IsCollectable, lists_of_master}
use Rattle.curp_facts.specs.Reach.{HasStored}
use Rattle.curp_msg.specs.declared.body.Quick.{Quick}

-- ---- serving masters

-- what it knows of a backup is so: the backup has so many entries, which are no more than its own, and the round was begun
pub record AcknowledgedOk (w : World) (m : MasterState) (a : Acknowledged) : Type 0 where
  pub stored : HasStored w a.length a.backup
  pub within : a.length ≤ length m.log
  pub begun : a.round ≤ m.round

-- it has sent an append that reaches to the end of its log
pub record HasSentAll (w : World) (node : NodeId) (m : MasterState) : Type 0 where
  pub to : NodeId
  pub append : Append
  pub sent : WasSent w (says node to (body.Append append))
  pub reaches : append.base + length append.entries ≡ length m.log

-- every backup of a list has acknowledged the entry at an index
abbrev pub IsOnEach : MasterState → List NodeId → ℕ → Type 0
IsOnEach m backups index = Each (λ b. index < (from_backup m.acknowledged b).length) backups

-- the lists that it switches to were ordered, above its own; once it has said Prepared, all its entries but expiries are on
-- each of their backups
pub record SwitchOk (w : World) (node : NodeId) (m : MasterState) (s : Switch) : Type 0 where
  pub ordered : WasSent w (says manager_node node (body.Prepare (record { version = s.version; backups = s.backups; witnesses = s.witnesses })))
  pub above : m.version < s.version
  pub begun : s.round ≤ m.round
  pub prepared : s.prepared ≡ true → WasSent w (says node manager_node (body.Prepared s.version))
  pub since : s.prepared ≡ true → (k : ℕ) (e : Entry) → At m.log k e → IsOnlyExpire e ⊎ IsOnEach m s.backups k
  pub reached : HasSentAll w node m

-- it has said that the lists of a version are prepared: it serves by them or by later ones, or switches to them
abbrev pub WasPrepared : MasterState → ℕ → Type 0
WasPrepared m version = (version ≤ m.version) ⊎ ((s : Switch) × (m.phase ≡ Switching s) × (s.version ≡ version) × (s.prepared ≡ true))

-- an Op stands at the index
pub record IsOpAt (log : List Entry) (index : ℕ) : Type 0 where
  pub request : Request
  pub acknowledged : ℕ
  pub stands : At log index (Op request acknowledged)

-- a free Op; while the master is open, no entry between those that are synced and this one touches its hashes
pub record FreeOp (m : MasterState) (index : ℕ) : Type 0 where
  pub op : IsOpAt m.log index
  pub apart : m.phase ≡ Open → (k : ℕ) (e : Entry) → synced m ≤ k → k < index → At m.log k e
      → Each (λ h. entry_touches e h ≡ false) (hashes op.request.command)

-- after so many entries, the id may be collected
pub record QueuedOk (m : MasterState) (q : Queued) : Type 0 where
  pub within : q.length ≤ length m.log
  pub checked : IsCollectable (check (meaning m.lo m.hi (take q.length m.log)).table q.id)

-- a read that waits was invoked, at a length that the log has reached, for a round that was begun
pub record CapturedOk (w : World) (m : MasterState) (c : Captured) : Type 0 where
  pub place : ℕ
  pub invoked : At w.history place (Invoke c.id c.command)
  pub reads : cmd.is_update c.command ≡ false
  pub number : c.number ≤ m.captured
  pub within : c.length ≤ length m.log
  pub begun : c.round ≤ m.round

-- a serving master
pub record ServingOk (w : World) (node : NodeId) (m : MasterState) : Type 0 where
  pub adopted : WasAdopted w (lists_of_master node m)
  pub lo : m.lo ≡ lo_of w m.part
  pub hi : m.hi ≡ hi_of w m.part
  pub log : LogOk w m.part m.log
  pub acknowledged : Each (AcknowledgedOk w m) m.acknowledged
  pub prepared : (version : ℕ) → WasSent w (says node manager_node (body.Prepared version)) → WasPrepared m version
  pub switching : (s : Switch) → m.phase ≡ Switching s → SwitchOk w node m s
  pub free : (index : ℕ) → has index m.free ≡ true → FreeOp m index
  pub held : Each (IsOpAt m.log) m.held
  pub queue : Each (QueuedOk m) m.queue
  pub captures : Each (CapturedOk w m) m.captures

-- ---- masters that don't serve yet

-- the log that came is the named backup's for good, and a log of the partition
abbrev pub CameLog : World → RecoveryState → Option (List Entry) → Type 0
CameLog w s None = ⊤
CameLog w s (Some entries) = FencedLogOk w s.order.backup s.order.epoch entries × LogOk w s.order.part entries

-- the requests that came are the named witness's for good, and updates that were invoked
abbrev pub CameRequests : World → RecoveryState → Option (List Request) → Type 0
CameRequests w s None = ⊤
CameRequests w s (Some requests) = FrozenOk w s.order.witness requests × Each (UpdateOk w) requests

-- what was replayed is a log, and each backup that is known to be complete has it whole
pub record ReplayedOk (w : World) (s : RecoveryState) (r : Replayed) : Type 0 where
  pub replayed : ReplayOk w s r
  pub log : LogOk w s.order.part r.log
  pub complete : Each (HasStored w (length r.log)) r.complete

-- by its phase
abbrev pub StageOk : World → RecoveryState → RecoveryPhase → Type 0
StageOk w s (Asking log requests) = CameLog w s log × CameRequests w s requests
StageOk w s (Storing r) = ReplayedOk w s r
StageOk w s (Waiting r) = ReplayedOk w s r × (all_complete s.order r ≡ true)

-- it waits to be adopted
abbrev pub IsWaiting : RecoveryPhase → Type 0
IsWaiting (Waiting r) = ⊤
IsWaiting _ = ⊥

-- the node has never said that lists are prepared
abbrev pub NeverPrepared : World → NodeId → Type 0
NeverPrepared w node = (version : ℕ) → WasSent w (says node manager_node (body.Prepared version)) → ⊥

-- a recovering master: its order was sent to it; only one that waits has said Recovered
pub record RecovererOk (w : World) (node : NodeId) (s : RecoveryState) : Type 0 where
  pub ordered : WasSent w (says manager_node node (body.Recover s.order))
  pub stage : StageOk w s s.phase
  pub unprepared : NeverPrepared w node
  pub told : (r : Recovered) → WasSent w (says node manager_node (body.Recovered r)) → IsWaiting s.phase

-- a fresh master has said neither
pub record FreshOk (w : World) (node : NodeId) : Type 0 where
  pub unprepared : NeverPrepared w node
  pub untold : (r : Recovered) → WasSent w (says node manager_node (body.Recovered r)) → ⊥

-- a master, by how far it is
abbrev pub MasterOk : World → NodeId → MasterStage → Type 0
MasterOk w node Fresh = FreshOk w node
MasterOk w node (Recovering s) = RecovererOk w node s
MasterOk w node (Serving m) = ServingOk w node m

-- ---- backups and witnesses

-- a backup of given lists is installed at their epoch, or not yet, and its log is a beginning of their master's
pub record BackupOk (w : World) (l : Lists) (b : BackupState) : Type 0 where
  pub installed : (epoch : ℕ) → b.installed ≡ Some epoch → epoch ≡ l.epoch
  pub empty : b.installed ≡ None → b.log ≡ []
  pub follows : (b.log ≡ []) ⊎ FollowsLog w l b

-- what a witness holds are updates that were invoked, of which no two have one id or conflict
pub record WitnessOk (w : World) (x : WitnessState) : Type 0 where
  pub started : x.mode ≡ mode.Normal → (epoch : ℕ) × (x.epoch ≡ Some epoch)
  pub held : Each (λ (h : HeldRequest). UpdateOk w h.request) x.held
  pub apart : IsDistinct clash (map (λ (h : HeldRequest). h.request) x.held)

-- a witness of given lists is started at their epoch, or not yet
abbrev pub StartedAt : Lists → WitnessState → Type 0
StartedAt l x = (epoch : ℕ) → x.epoch ≡ Some epoch → epoch ≡ l.epoch

-- ---- clients

-- a message has come to client n, or may come yet
abbrev pub MayCome : World → ℕ → NodeId → Body → Type 0
MayCome w n from b = WasSent w (says from (client_node n) b)

-- its numbers are those of the history, and what it knows was said
pub record ClientOk (w : World) (n : ℕ) (c : ClientState) : Type 0 where
  pub numbers : ClientNumbersOk n w.history c
  pub knows : KnowledgeOk (MayCome w n) (EntryWas w) c

-- ---- the history

-- a value with that answer was sent for the request
abbrev pub ValueWasSent : World → RequestId → Answer → Type 0
ValueWasSent w id a = (node : NodeId) × (v : Worth) × WasSent w (says node (client_node id.client) (body.Worth v)) × (v.id ≡ id) × (v.answer ≡ a)

-- A master of adopted lists has answered the request so at once, with their epoch and version, and each of their witnesses has
-- said Live at that epoch
pub record WasSeen (w : World) (id : RequestId) (a : Answer) : Type 0 where
  pub lists : Lists
  pub adopted : WasAdopted w lists
  pub quick : Quick
  pub sent : WasSent w (says lists.master (client_node id.client) (body.Quick quick))
  pub its_id : quick.id ≡ id
  pub its_answer : quick.answer ≡ a
  pub its_epoch : quick.epoch ≡ lists.epoch
  pub its_version : quick.version ≡ lists.version
  pub lives : Each (λ x. WasSent w (says x (client_node id.client) (body.Probed (record { id = id; epoch = lists.epoch; live = true })))) lists.witnesses

-- a read was told so: by a value, or at once
abbrev pub WasRead : World → RequestId → Answer → Type 0
WasRead w id a = ValueWasSent w id a ⊎ WasSeen w id a

-- what is completed was completable with its answer, or was told so
abbrev pub CompletedBy : World → RequestId → Answer → Type 0
CompletedBy w id a = ((part : ℕ) × Completable w part id a) ⊎ WasRead w id a
