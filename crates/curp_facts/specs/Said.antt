-- What each message says, and that it stays true.
use Rattle.std.specs.Prelude.{◌≡◌, ◌≤◌, ◌⊎◌, ℕ, ◌+◌, Bool, true, false, List, length, Some, ⊤}
use Rattle.curp_base.specs.Words.{At, Each, IsPrefix}
use Rattle.curp_cmd.specs.Node.{client_node, manager_node}
use Rattle.curp_cmd.specs.Store as cmd
use Rattle.curp_cmd.specs.declared.command.Command.{Command}
use Rattle.curp_cmd.specs.declared.command.Request.{Request}
use Rattle.curp_cmd.specs.declared.entry.Entry.{Entry}
use Rattle.curp_cmd.specs.declared.entry.Entry.TheVariants.{Take, Give}
use Rattle.curp_cmd.specs.declared.migration.Package.{Package}
use Rattle.curp_cmd.specs.declared.node.NodeId.{NodeId}
use Rattle.curp_msg.specs.Moved.{says}
use Rattle.curp_msg.specs.declared.answer.AppendAnswer.{AppendAnswer}
use Rattle.curp_msg.specs.declared.answer.AppendAnswer.TheVariants.{Stored}
use Rattle.curp_msg.specs.declared.answer.GcAnswer.{GcAnswer}
use Rattle.curp_msg.specs.declared.answer.GcAnswer.TheVariants.{Suspects}
use Rattle.curp_msg.specs.declared.body.Accepted.{Accepted}
use Rattle.curp_msg.specs.declared.body.Adopted.{Adopted}
use Rattle.curp_msg.specs.declared.body.Append.{Append}
use Rattle.curp_msg.specs.declared.body.Appended.{Appended}
use Rattle.curp_msg.specs.declared.body.Body.{Body}
use Rattle.curp_msg.specs.declared.body.Body.TheVariants as body
use Rattle.curp_msg.specs.declared.body.Gc.{Gc}
use Rattle.curp_msg.specs.declared.body.Parcel.{Parcel}
use Rattle.curp_msg.specs.declared.body.Recover.{Recover}
use Rattle.curp_msg.specs.declared.body.Recovered.{Recovered}
use Rattle.curp_msg.specs.declared.body.Rejected.{Rejected}
use Rattle.curp_msg.specs.declared.body.Reply.{Reply}
use Rattle.curp_msg.specs.declared.body.Worth.{Worth}
use Rattle.curp_order.specs.declared.Event.TheVariants.{Invoke}
use Rattle.curp_model.specs.Named.{IsWitness}
use Rattle.curp_model.specs.Witness.{WitnessState, holds}
use Rattle.curp_model.specs.World.{World}
use Rattle.curp_facts.specs.Entries.{RequestOk, UpdateOk}
use Rattle.curp_facts.specs.Facts.{AdoptedBefore, AppendOk, WasCollected, EntryWas, FenceReplyOk, FrozenOk, HasLog, IsAmong, IsGiven, Lists, Logged, PreparedOk, RecoveredOk, replay_of, Speaks, StoredOk, WasAdopted, WasSent, WasTaken, IsMasterOf, WasOrdered}
use Rattle.curp_facts.specs.Kept.{RefusalFirstOk}
use Rattle.curp_facts.specs.Reach.{EarlySaid, GcSaid, IsReady, Reach, SyncedSaid, QuickSaid}
use Rattle.curp_msg.specs.declared.body.Probed.{Probed}
use Rattle.curp_cmd.specs.declared.command.RequestId.{RequestId}

-- ---- from clients

-- a request of the sender
pub record AskSaid (w : World) (from : NodeId) (r : Request) : Type 0 where
  pub request : RequestOk w r
  pub sender : from ≡ client_node r.id.client

-- an update of the sender
pub record UpdateSaid (w : World) (from : NodeId) (r : Request) : Type 0 where
  pub asked : AskSaid w from r
  pub updates : cmd.is_update r.command ≡ true

-- a read of the sender
pub record ReadSaid (w : World) (from : NodeId) (r : Request) : Type 0 where
  pub asked : AskSaid w from r
  pub reads : cmd.is_update r.command ≡ false

-- the id is that of a read of the sender
pub record ProbeSaid (w : World) (from : NodeId) (id : RequestId) : Type 0 where
  pub sender : from ≡ client_node id.client
  pub place : ℕ
  pub command : Command
  pub invoked : At w.history place (Invoke id command)
  pub reads : cmd.is_update command ≡ false

-- ---- from masters

-- what a reply says, synced or early
abbrev pub ReplyHolds : World → NodeId → Reply → Bool → Type 0
ReplyHolds w from r true = SyncedSaid w from r
ReplyHolds w from r false = EarlySaid w from r

-- the reply is of an adopted list of its sender, and goes to its client
pub record ReplySaid (w : World) (from to : NodeId) (r : Reply) : Type 0 where
  pub speaks : Speaks w from r.epoch r.version
  pub addressee : to ≡ client_node r.id.client
  pub holds : ReplyHolds w from r r.synced

-- a value answers a read that was invoked, by a master that serves in that epoch
pub record WorthSaid (w : World) (from to : NodeId) (v : Worth) : Type 0 where
  pub version : ℕ
  pub speaks : Speaks w from v.epoch version
  pub addressee : to ≡ client_node v.id.client
  pub place : ℕ
  pub command : Command
  pub invoked : At w.history place (Invoke v.id command)
  pub reads : cmd.is_update command ≡ false

-- an append goes to a backup of given lists of its sender, in their epoch, and reaches no further than its sender's log
pub record AppendSaid (w : World) (from to : NodeId) (a : Append) : Type 0 where
  pub lists : Lists
  pub given : IsGiven w lists
  pub its_master : lists.master ≡ from
  pub its_epoch : lists.epoch ≡ a.epoch
  pub its_backup : IsAmong to lists.backups
  pub holds : AppendOk w from a
  pub within : a.base + length a.entries ≤ length holds.l.log

-- a collection goes to a witness of lists that were adopted before it was sent, and says so of each id that it lists
pub record GcHolds (w : World) (place : ℕ) (from to : NodeId) (g : Gc) : Type 0 where
  pub lists : Lists
  pub adopted : AdoptedBefore w place lists
  pub its_master : lists.master ≡ from
  pub its_epoch : lists.epoch ≡ g.epoch
  pub its_witness : IsAmong to lists.witnesses
  pub collectable : Each (GcSaid w lists) g.ids

-- an entry stands in its sender's log, on each backup of each list that is ready, from an adopted one on
pub record StoredEntry (w : World) (from : NodeId) (Is : Entry → Type 0) : Type 0 where
  pub lists : Lists
  pub adopted : WasAdopted w lists
  pub its_master : lists.master ≡ from
  pub l : Logged
  pub its_log : HasLog w from l
  pub index : ℕ
  pub entry : Entry
  pub stands : At l.log index entry
  pub is : Is entry
  pub reach : Reach w from lists.version (index + 1)

-- the Take of a migration with its package
abbrev pub IsTakeOf : ℕ → Package → Entry → Type 0
IsTakeOf migration taken e = e ≡ Take migration taken

-- the Give of a migration, or of a later one
abbrev pub IsGiveFrom : ℕ → Entry → Type 0
IsGiveFrom migration e = (number : ℕ) × (given : Package) × (migration ≤ number) × (e ≡ Give number given)

-- the migration was ordered to be given to a master of the sender's partition
pub record GiveWasOrdered (w : World) (from : NodeId) (migration : ℕ) : Type 0 where
  pub part : ℕ
  pub its_part : IsMasterOf w part from
  pub parcel : Parcel
  pub ordered : WasOrdered w part (body.GiveIn parcel)
  pub its_number : parcel.migration ≡ migration

-- the master was ordered to recover, by an order of which something holds
abbrev pub IsOrderedTo : World → NodeId → (Recover → Type 0) → Type 0
IsOrderedTo w master Has = (order : Recover) × WasSent w (says manager_node master (body.Recover order)) × Has order

-- a recovered master's log begins with what it replayed, and each backup of each ready list of it has so much
pub record RecoveredSaid (w : World) (from : NodeId) (r : Recovered) : Type 0 where
  pub holds : RecoveredOk w from r.epoch
  pub its_part : holds.order.part ≡ r.part
  pub prefix : List Entry
  pub is_replay : prefix ≡ replay_of holds.order.lo holds.order.hi holds.sources
  pub l : Logged
  pub its_log : HasLog w from l
  pub began : IsPrefix prefix l.log
  pub reach : Reach w from holds.order.version (length prefix)

-- ---- from backups and witnesses

-- an answer to an append goes to the master of given lists of the backup, in their epoch
pub record AppendedSaid (w : World) (from to : NodeId) (a : Appended) : Type 0 where
  pub lists : Lists
  pub given : IsGiven w lists
  pub its_master : lists.master ≡ to
  pub its_epoch : lists.epoch ≡ a.epoch
  pub its_backup : IsAmong from lists.backups

-- what it says, by its case
abbrev pub AppendHolds : World → NodeId → NodeId → Appended → AppendAnswer → Type 0
AppendHolds w from to a (Stored long) = StoredOk w from to a.epoch a.round long
AppendHolds w from to a _ = ⊤

-- the witness was started at that epoch, and holds the id, or a collection of that epoch that lists it was sent to it; it tells
-- so to the client of the id
pub record AcceptedSaid (w : World) (from to : NodeId) (a : Accepted) : Type 0 where
  pub addressee : to ≡ client_node a.id.client
  pub x : WitnessState
  pub is : IsWitness w from x
  pub its_epoch : x.epoch ≡ Some a.epoch
  pub kept : (holds x a.id ≡ true) ⊎ WasCollected w from a.id a.epoch

-- what is rejected is an update that was invoked, and it is told to its client
pub record RejectedSaid (w : World) (to : NodeId) (r : Rejected) : Type 0 where
  pub addressee : to ≡ client_node r.id.client
  pub place : ℕ
  pub command : Command
  pub invoked : At w.history place (Invoke r.id command)
  pub updates : cmd.is_update command ≡ true

-- a probe was of a read that was invoked, and its client is answered; one that says Live was started at that epoch
pub record ProbedSaid (w : World) (from to : NodeId) (a : Probed) : Type 0 where
  pub addressee : to ≡ client_node a.id.client
  pub place : ℕ
  pub command : Command
  pub invoked : At w.history place (Invoke a.id command)
  pub reads : cmd.is_update command ≡ false
  pub own : a.live ≡ true → (x : WitnessState) × IsWitness w from x × (x.epoch ≡ Some a.epoch)

-- suspects are updates that were invoked
abbrev pub SuspectsHold : World → GcAnswer → Type 0
SuspectsHold w (Suspects requests) = Each (UpdateOk w) requests
SuspectsHold w _ = ⊤

-- ---- from the manager

-- the lists that are adopted are ready
pub record AdoptedSaid (w : World) (to : NodeId) (a : Adopted) : Type 0 where
  pub lists : Lists
  pub ready : IsReady w lists
  pub its_master : lists.master ≡ to
  pub its_part : lists.part ≡ a.part
  pub its_epoch : lists.epoch ≡ a.epoch
  pub its_version : lists.version ≡ a.version

-- ---- each message

-- what a message says, by its kind, where it stands at that place among all messages
abbrev pub Says : World → ℕ → NodeId → NodeId → Body → Type 0
Says w place from to (body.Update ask) = UpdateSaid w from ask.request
Says w place from to (body.Sync ask) = UpdateSaid w from ask.request
Says w place from to (body.Read ask) = ReadSaid w from ask.request
Says w place from to (body.Glance ask) = ReadSaid w from ask.request
Says w place from to (body.Record r) = UpdateSaid w from r.request
Says w place from to (body.Probe a) = ProbeSaid w from a.id
Says w place from to body.Fetch = ⊤
Says w place from to (body.Configuration config) = Each (EntryWas w) config.parts
Says w place from to (body.Reply r) = ReplySaid w from to r
Says w place from to (body.Worth v) = WorthSaid w from to v
Says w place from to (body.Quick q) = QuickSaid w place from to q
Says w place from to (body.Refuse r) = RefusalFirstOk w r.id.client r.refusal
Says w place from to (body.Accepted a) = AcceptedSaid w from to a
Says w place from to (body.Rejected r) = RejectedSaid w to r
Says w place from to (body.Probed a) = ProbedSaid w from to a
Says w place from to (body.Append a) = AppendSaid w from to a
Says w place from to (body.Appended a) = AppendedSaid w from to a × AppendHolds w from to a a.answer
Says w place from to (body.Gc g) = GcHolds w place from to g
Says w place from to (body.Collected c) = SuspectsHold w c.answer
Says w place from to (body.Install epoch) = ⊤
Says w place from to (body.Start s) = ⊤
Says w place from to (body.Recover o) = ⊤
Says w place from to (body.Fence epoch) = IsOrderedTo w from (λ o. (o.epoch ≡ epoch) × (o.backup ≡ to))
Says w place from to (body.FenceAnswer a) = IsOrderedTo w to (λ o. (o.epoch ≡ a.epoch) × (o.backup ≡ from)) × FenceReplyOk w from a.epoch a.answer
Says w place from to (body.Freeze epoch) = IsOrderedTo w from (λ o. (o.epoch ≡ epoch) × (o.witness ≡ to))
Says w place from to (body.FrozenAnswer requests) = FrozenOk w from requests
Says w place from to (body.Recovered r) = RecoveredSaid w from r
Says w place from to (body.Adopted a) = AdoptedSaid w to a
Says w place from to (body.Prepare p) = ⊤
Says w place from to (body.Prepared version) = PreparedOk w from version
Says w place from to (body.TakeOut t) = ⊤
Says w place from to (body.Taken t) = StoredEntry w from (IsTakeOf t.migration t.package)
Says w place from to (body.GiveIn t) = WasTaken w t
Says w place from to (body.Given migration) = StoredEntry w from (IsGiveFrom migration) × GiveWasOrdered w from migration
Says w place from to (body.ExpireClient client) = ⊤
