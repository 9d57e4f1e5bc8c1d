-- What one input leaves of a master, and what the master says then. The world is that before the input; what is said of the
-- master is said of it as it is afterwards.
use Rattle.std.specs.Prelude.{◌≡◌, ◌≤◌, ◌<◌, ◌⊎◌, ℕ, ◌+◌, Bool, true, false, List, length, take, drop, Option, Some, None, ⊤}
use Rattle.curp_base.specs.Words.{At, Each}
use Rattle.curp_cmd.specs.Node.{client_node, manager_node, master_node}
use Rattle.curp_cmd.specs.Store as cmd
use Rattle.curp_cmd.specs.declared.command.Command.{Command}
use Rattle.curp_cmd.specs.declared.command.Request.{Request}
use Rattle.curp_cmd.specs.declared.command.RequestId.{RequestId}
use Rattle.curp_cmd.specs.declared.entry.Entry.{Entry}
use Rattle.curp_cmd.specs.declared.node.NodeId.{NodeId}
use Rattle.curp_msg.specs.Moved.{Moved, says}
use Rattle.curp_msg.specs.declared.answer.AppendAnswer.{AppendAnswer}
use Rattle.curp_msg.specs.declared.answer.AppendAnswer.TheVariants.{Stored}
use Rattle.curp_msg.specs.declared.answer.FenceReply.{FenceReply}
use Rattle.curp_msg.specs.declared.answer.FenceReply.TheVariants.{Log}
use Rattle.curp_msg.specs.declared.answer.GcAnswer.{GcAnswer}
use Rattle.curp_msg.specs.declared.answer.GcAnswer.TheVariants.{Suspects}
use Rattle.curp_msg.specs.declared.body.Adopted.{Adopted}
use Rattle.curp_msg.specs.declared.body.Append.{Append}
use Rattle.curp_msg.specs.declared.body.Ask.{Ask}
use Rattle.curp_msg.specs.declared.body.Body.{Body}
use Rattle.curp_msg.specs.declared.body.Body.TheVariants as body
use Rattle.curp_msg.specs.declared.body.Gc.{Gc}
use Rattle.curp_msg.specs.declared.body.Parcel.{Parcel}
use Rattle.curp_msg.specs.declared.body.Refuse.{Refuse}
use Rattle.curp_msg.specs.declared.body.Reply.{Reply}
use Rattle.curp_msg.specs.declared.body.Worth.{Worth}
use Rattle.curp_msg.specs.declared.message.Message.{Message}
use Rattle.curp_order.specs.declared.Event.TheVariants.{Invoke}
use Rattle.curp_model.specs.Log.{answer_after, meaning}
use Rattle.curp_cmd.specs.declared.entry.Entry.TheVariants.{Op}
use Rattle.curp_model.specs.Master.{MasterState, Open, Switch, Switching, from_backup, has, stored_on, synced, is_clean, state_of}
use Rattle.curp_model.specs.Recovery.{RecoveryPhase, RecoveryState, Storing}
use Rattle.curp_model.specs.Table.{check}
use Rattle.curp_model.specs.World.{World}
use Rattle.curp_facts.specs.Entries.{LogOk, RequestOk, UpdateOk}
use Rattle.curp_facts.specs.Facts.{FencedLogOk, FrozenOk, IsAmong, IsOnlyExpire, WasOrdered, WasSent}
use Rattle.curp_facts.specs.Kept.{AllCompletedBelow, IsCollectable, RefusalFirstOk}
use Rattle.curp_facts.specs.Nodes.{AcknowledgedOk, CapturedOk, FreeOp, IsOnEach, IsOpAt, IsWaiting, QueuedOk, StageOk, WasPrepared}
use Rattle.curp_facts.specs.Reach.{HasStored, StandsAt}
use Rattle.curp_facts.specs.Said.{IsGiveFrom, IsTakeOf}
use Rattle.curp_msg.specs.declared.body.Quick.{Quick}
use Rattle.curp_cmd.specs.declared.command.Command.TheVariants.{Get}
use Rattle.curp_cmd.specs.Hash.{hashes}
use Rattle.curp_model.specs.Ranges.{owns_all}

-- ---- what a serving master hears

-- what an answer to an append says: the backup has so many entries, no more than the master, as of a round that was begun
abbrev pub HearsAnswer : World → MasterState → NodeId → ℕ → AppendAnswer → Type 0
HearsAnswer w m from round (Stored long) = HasStored w long from × (long ≤ length m.log) × (round ≤ m.round)
HearsAnswer w m from round _ = ⊤

-- suspects are updates that were invoked
abbrev pub HearsSuspects : World → GcAnswer → Type 0
HearsSuspects w (Suspects requests) = Each (UpdateOk w) requests
HearsSuspects w _ = ⊤

-- a Glance of that id was sent
pub record WasGlanced (w : World) (id : RequestId) : Type 0 where
  pub from : NodeId
  pub to : NodeId
  pub ask : Ask
  pub sent : WasSent w (says from to (body.Glance ask))
  pub its_id : ask.request.id ≡ id

-- what a message that comes has to say, by its kind
abbrev pub Hears : World → MasterState → NodeId → Body → Type 0
Hears w m from (body.Update ask) = UpdateOk w ask.request
Hears w m from (body.Sync ask) = UpdateOk w ask.request
Hears w m from (body.Read ask) = RequestOk w ask.request
Hears w m from (body.Glance ask) = RequestOk w ask.request × WasGlanced w ask.request.id
Hears w m from (body.Appended a) = HearsAnswer w m from a.round a.answer
Hears w m from (body.Collected c) = HearsSuspects w c.answer
Hears w m from (body.Adopted a) = WasPrepared m a.version
Hears w m from (body.TakeOut t) = WasOrdered w m.part (body.TakeOut t)
Hears w m from (body.GiveIn g) = WasOrdered w m.part (body.GiveIn g) × Each (AllCompletedBelow w) g.package.table.firsts
Hears w m from (body.ExpireClient client) = WasOrdered w m.part (body.ExpireClient client)
Hears w m from _ = ⊤

-- ---- what a serving master says

-- the id of a synced reply stands in its log with that answer, on each backup of its list
pub record SyncedSays (m : MasterState) (r : Reply) : Type 0 where
  pub stands : StandsAt m.lo m.hi m.log r.id r.answer
  pub below : stands.index < synced m

-- that of an unsynced reply is a free Op with that answer
pub record EarlySays (m : MasterState) (r : Reply) : Type 0 where
  pub index : ℕ
  pub request : Request
  pub acknowledged : ℕ
  pub stands : At m.log index (Op request acknowledged)
  pub its_id : request.id ≡ r.id
  pub its_answer : answer_after m.lo m.hi (take index m.log) request.command ≡ r.answer
  pub free : has index m.free ≡ true

-- by its kind
abbrev pub ReplyKind : MasterState → Reply → Bool → Type 0
ReplyKind m r true = SyncedSays m r
ReplyKind m r false = EarlySays m r

-- a reply bears its epoch and its version, and goes to its client
pub record ReplySays (m : MasterState) (to : NodeId) (r : Reply) : Type 0 where
  pub serves : m.phase ≡ Open
  pub its_epoch : r.epoch ≡ m.epoch
  pub its_version : r.version ≡ m.version
  pub addressee : to ≡ client_node r.id.client
  pub kind : ReplyKind m r r.synced

-- a value answers a read that was invoked
pub record WorthSays (w : World) (m : MasterState) (to : NodeId) (v : Worth) : Type 0 where
  pub serves : m.phase ≡ Open
  pub its_epoch : v.epoch ≡ m.epoch
  pub addressee : to ≡ client_node v.id.client
  pub place : ℕ
  pub command : Command
  pub invoked : At w.history place (Invoke v.id command)
  pub reads : cmd.is_update command ≡ false

-- a read was answered at once, by the log as it is: it was invoked and asked for so, no entry that isn't synced touches its key, and
-- the key is owned
pub record QuickSays (w : World) (m : MasterState) (to : NodeId) (q : Quick) : Type 0 where
  pub asked : WasGlanced w q.id
  pub serves : m.phase ≡ Open
  pub its_epoch : q.epoch ≡ m.epoch
  pub its_version : q.version ≡ m.version
  pub addressee : to ≡ client_node q.id.client
  pub its_number : q.capture ≡ m.captured
  pub event : ℕ
  pub key : List ℕ
  pub invoked : At w.history event (Invoke q.id (Get key))
  pub clean : is_clean m (Get key) ≡ true
  pub owned : owns_all (state_of m).owned (hashes (Get key)) ≡ true
  pub its_answer : answer_after m.lo m.hi m.log (Get key) ≡ q.answer

-- a refusal goes to its client, and the first number that it tells is one below which all is completed
pub record RefuseSays (w : World) (to : NodeId) (r : Refuse) : Type 0 where
  pub addressee : to ≡ client_node r.id.client
  pub first : RefusalFirstOk w r.id.client r.refusal

-- an append goes to a backup on which it stores, with all of its log from a place on
pub record AppendSays (m : MasterState) (to : NodeId) (a : Append) : Type 0 where
  pub its_epoch : a.epoch ≡ m.epoch
  pub its_backup : IsAmong to (stored_on m)
  pub within : a.base ≤ length m.log
  pub entries : a.entries ≡ drop a.base m.log
  pub its_round : a.round ≡ m.round

-- the id may be collected after entries that each backup of its list has
pub record CollectableIn (m : MasterState) (id : RequestId) : Type 0 where
  pub count : ℕ
  pub low : count ≤ synced m
  pub checked : IsCollectable (check (meaning m.lo m.hi (take count m.log)).table id)

-- a collection goes to a witness of its list
pub record GcSays (m : MasterState) (to : NodeId) (g : Gc) : Type 0 where
  pub serves : m.phase ≡ Open
  pub its_epoch : g.epoch ≡ m.epoch
  pub its_witness : IsAmong to m.witnesses
  pub collectable : Each (CollectableIn m) g.ids

-- an entry of its log is on each backup of its list
pub record StoredSays (m : MasterState) (Is : Entry → Type 0) : Type 0 where
  pub serves : m.phase ≡ Open
  pub index : ℕ
  pub entry : Entry
  pub stands : At m.log index entry
  pub is : Is entry
  pub below : index < synced m

-- lists are prepared to which it switches
pub record PreparedSays (m : MasterState) (version : ℕ) : Type 0 where
  pub s : Switch
  pub switches : m.phase ≡ Switching s
  pub its_version : s.version ≡ version
  pub prepared : s.prepared ≡ true

-- the migration was ordered to be given to a master of the partition
pub record GiveOrdered (w : World) (part migration : ℕ) : Type 0 where
  pub parcel : Parcel
  pub ordered : WasOrdered w part (body.GiveIn parcel)
  pub its_number : parcel.migration ≡ migration

-- what a serving master says, by the kind of the message. It says nothing else
abbrev pub ServingSays : World → MasterState → NodeId → Body → Type 0
ServingSays w m to (body.Reply r) = ReplySays m to r
ServingSays w m to (body.Quick q) = QuickSays w m to q
ServingSays w m to (body.Worth v) = WorthSays w m to v
ServingSays w m to (body.Refuse r) = RefuseSays w to r
ServingSays w m to (body.Append a) = AppendSays m to a
ServingSays w m to (body.Gc g) = GcSays m to g
ServingSays w m to (body.Prepared version) = PreparedSays m version × (to ≡ manager_node)
ServingSays w m to (body.Taken t) = StoredSays m (IsTakeOf t.migration t.package) × (to ≡ manager_node)
ServingSays w m to (body.Given migration) = StoredSays m (IsGiveFrom migration) × (to ≡ manager_node) × GiveOrdered w m.part migration
ServingSays w m to _ = ⊥

-- a message of master n, of which something holds
pub record IsSaidBy (n : ℕ) (Says : NodeId → Body → Type 0) (x : Message) : Type 0 where
  pub sender : x.from ≡ master_node n
  pub says_so : Says x.to x.body

-- ---- how a serving master moves

-- one of the messages is an append that reaches to the end of its log
pub record SaysAll (m : MasterState) (messages : List Message) : Type 0 where
  pub x : Message
  pub stands : IsAmong x messages
  pub append : Append
  pub is : x.body ≡ body.Append append
  pub reaches : append.base + length append.entries ≡ length m.log

-- one of the messages says that these lists are prepared
pub record SaysPrepared (n : ℕ) (version : ℕ) (messages : List Message) : Type 0 where
  pub x : Message
  pub stands : IsAmong x messages
  pub sender : x.from ≡ master_node n
  pub addressee : x.to ≡ manager_node
  pub is : x.body ≡ body.Prepared version

-- a backup has acknowledged so many entries
abbrev pub HasAcknowledged : MasterState → ℕ → NodeId → Type 0
HasAcknowledged m n backup = n ≤ (from_backup m.acknowledged backup).length

-- the lists that it serves by, and those that it switches to
pub data ListsMove (n : ℕ) (m : MasterState) (from : NodeId) (heard : Option Body) (k : MasterState) (messages : List Message) : Type 0 where
  -- they stay
  Stays : k.version ≡ m.version → k.backups ≡ m.backups → k.witnesses ≡ m.witnesses → k.phase ≡ m.phase → ListsMove n m from heard k messages
  -- an open master begins to switch, as it was ordered
  Begins : (version : ℕ) (backups witnesses : List NodeId)
      → heard ≡ Some (body.Prepare (record { version = version; backups = backups; witnesses = witnesses })) → m.phase ≡ Open → m.version < version
      → k.version ≡ m.version → k.backups ≡ m.backups → k.witnesses ≡ m.witnesses
      → k.phase ≡ Switching (record { version = version; backups = backups; witnesses = witnesses; round = m.round + 1; prepared = false })
      → m.round + 1 ≤ k.round → ListsMove n m from heard k messages
  -- the lists that it switches to are prepared: each of their backups has acknowledged the whole log
  Prepares : (s : Switch) → m.phase ≡ Switching s → s.prepared ≡ false → k.log ≡ m.log
      → Each (HasAcknowledged k (length k.log)) s.backups
      → k.version ≡ m.version → k.backups ≡ m.backups → k.witnesses ≡ m.witnesses → k.phase ≡ Switching (record s { prepared = true })
      → SaysPrepared n s.version messages → ListsMove n m from heard k messages
  -- it takes them up, as they are adopted
  TakesUp : (s : Switch) (a : Adopted) → heard ≡ Some (body.Adopted a) → s.version ≡ a.version → m.phase ≡ Switching s → s.prepared ≡ true → k.version ≡ s.version → k.backups ≡ s.backups → k.witnesses ≡ s.witnesses
      → k.phase ≡ Open → ListsMove n m from heard k messages

-- while it switches: the log stays, or an append that reaches to its end goes out
abbrev pub SwitchReaches : MasterState → MasterState → List Message → Type 0
SwitchReaches m k messages = (s : Switch) → k.phase ≡ Switching s → ((k.log ≡ m.log) × ((t : Switch) × (m.phase ≡ Switching t))) ⊎ SaysAll k messages

-- one input to serving master n leaves it so
pub record ServingMove (w : World) (n : ℕ) (m : MasterState) (from : NodeId) (heard : Option Body) (r : Moved MasterState) : Type 0 where
  pub log : LogOk w m.part r.state.log
  pub acknowledged : Each (AcknowledgedOk w r.state) r.state.acknowledged
  pub free : (index : ℕ) → has index r.state.free ≡ true → FreeOp r.state index
  pub held : Each (IsOpAt r.state.log) r.state.held
  pub queue : Each (QueuedOk r.state) r.state.queue
  pub captures : Each (CapturedOk w r.state) r.state.captures
  pub lists : ListsMove n m from heard r.state r.messages
  pub reaches : SwitchReaches m r.state r.messages
  pub since : (s : Switch) → r.state.phase ≡ Switching s → s.prepared ≡ true → (k : ℕ) (e : Entry) → At r.state.log k e
      → IsOnlyExpire e ⊎ IsOnEach r.state s.backups k
  pub says : Each (IsSaidBy n (ServingSays w r.state)) r.messages
  pub refused : r.refused ≡ 0
  pub idle : r.completed ≡ None

-- ---- masters that don't serve yet

-- what a fence's answer says: the log is that backup's for good, and a log of the partition
abbrev pub HearsLog : World → RecoveryState → NodeId → FenceReply → Type 0
HearsLog w s from (Log entries) = (from ≡ s.order.backup → FencedLogOk w s.order.backup s.order.epoch entries × LogOk w s.order.part entries)
HearsLog w s from _ = ⊤

-- what an answer to an append says: the backup has so many entries
abbrev pub HearsStored : World → NodeId → AppendAnswer → Type 0
HearsStored w from (Stored long) = HasStored w long from
HearsStored w from _ = ⊤

-- what a message that comes to a recovering master has to say
abbrev pub RecoveryHears : World → RecoveryState → NodeId → Body → Type 0
RecoveryHears w s from (body.FenceAnswer a) = HearsLog w s from a.answer
RecoveryHears w s from (body.FrozenAnswer requests) = FrozenOk w from requests × Each (UpdateOk w) requests
RecoveryHears w s from (body.Appended a) = HearsStored w from a.answer
RecoveryHears w s from _ = ⊤

-- the whole log in a round of storing
abbrev pub IsWholeLog : RecoveryPhase → Append → Type 0
IsWholeLog (Storing r) a = (a.entries ≡ r.log) × (a.round ≡ r.round)
IsWholeLog _ a = ⊥

-- what a recovering master says, by the kind of the message. It says nothing else
abbrev pub RecoverySays : World → RecoveryState → NodeId → Body → Type 0
RecoverySays w s to (body.Fence epoch) = (epoch ≡ s.order.epoch) × (to ≡ s.order.backup)
RecoverySays w s to (body.Freeze epoch) = (epoch ≡ s.order.epoch) × (to ≡ s.order.witness)
RecoverySays w s to (body.Append a) = (a.epoch ≡ s.order.epoch) × (a.base ≡ 0) × IsAmong to s.order.backups × IsWholeLog s.phase a
RecoverySays w s to (body.Recovered r) = (r.part ≡ s.order.part) × (r.epoch ≡ s.order.epoch) × (to ≡ manager_node) × IsWaiting s.phase
RecoverySays w s to (body.Refuse r) = RefuseSays w to r
RecoverySays w s to _ = ⊥

-- one input to recovering master n leaves it so
pub record RecoveryMove (w : World) (n : ℕ) (s : RecoveryState) (r : Moved RecoveryState) : Type 0 where
  pub order : r.state.order ≡ s.order
  pub stage : StageOk w r.state r.state.phase
  pub waits : IsWaiting s.phase → IsWaiting r.state.phase
  pub says : Each (IsSaidBy n (RecoverySays w r.state)) r.messages
  pub refused : r.refused ≡ 0
  pub idle : r.completed ≡ None
