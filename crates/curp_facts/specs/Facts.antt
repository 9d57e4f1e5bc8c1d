-- What holds after every step, as statements. From the facts about messages and nodes it follows that any one pair of a
-- backup and a witness of an adopted list is enough to recover from (this project's own).
use Rattle.std.specs.Prelude.{◌≡◌, ◌≢◌, ◌≤◌, ◌<◌, ◌⊎◌, ℕ, ◌+◌, ◌==◌, if◌then◌else◌, Bool, true, false, List, [], ◌∷◌, length, take, drop, Option, Some, None, ⊤}
use Rattle.curp_base.specs.Words.{At, Each, IsPrefix, numbered}
use Rattle.curp_cmd.specs.declared.command.Answer.{Answer}
use Rattle.curp_cmd.specs.declared.command.Request.{Request}
use Rattle.curp_cmd.specs.declared.command.RequestId.{RequestId}
use Rattle.curp_cmd.specs.declared.entry.Entry.{Entry}
use Rattle.curp_cmd.specs.declared.entry.Entry.TheVariants.{Take, Give, Expire, Op}
use Rattle.curp_cmd.specs.declared.migration.Package.{Package}
use Rattle.curp_cmd.specs.declared.node.NodeId.{NodeId}
use Rattle.curp_msg.specs.declared.answer.AppendAnswer.{AppendAnswer}
use Rattle.curp_msg.specs.declared.answer.AppendAnswer.TheVariants.{Stored}
use Rattle.curp_msg.specs.declared.answer.FenceReply.{FenceReply}
use Rattle.curp_msg.specs.declared.answer.FenceReply.TheVariants.{Log}
use Rattle.curp_msg.specs.declared.body.Accepted.{Accepted}
use Rattle.curp_msg.specs.declared.body.Append.{Append}
use Rattle.curp_msg.specs.declared.body.Appended.{Appended}
use Rattle.curp_msg.specs.declared.body.Body.{Body}
use Rattle.curp_msg.specs.declared.body.Body.TheVariants as body
use Rattle.curp_msg.specs.declared.body.Gc.{Gc}
use Rattle.curp_msg.specs.declared.body.Parcel.{Parcel}
use Rattle.curp_msg.specs.declared.body.Prepare.{Prepare}
use Rattle.curp_msg.specs.declared.body.Recover.{Recover}
use Rattle.curp_msg.specs.declared.body.Reply.{Reply}
use Rattle.curp_msg.specs.declared.body.TakeOut.{TakeOut}
use Rattle.curp_msg.specs.declared.config.Config.{Config}
use Rattle.curp_msg.specs.declared.config.PartConfig.{PartConfig}
use Rattle.curp_msg.specs.declared.message.Message.{Message}
use Rattle.curp_range.specs.Spans.{Owns, Span, is_covered, with_range, without}
use Rattle.curp_model.specs.declared.Mode.TheVariants as mode
use Rattle.curp_model.specs.Backup.{BackupState}
use Rattle.curp_model.specs.Client.{Attempt, ClientState, Pending}
use Rattle.curp_model.specs.Log.{IsDone, Stands}
use Rattle.curp_model.specs.Manager as manager
use Rattle.curp_model.specs.Manager.{Doing, Shape, opening_config}
use Rattle.curp_model.specs.Master.{MasterState}
use Rattle.curp_model.specs.Named.{IsBackup, IsMaster, IsNode, IsWitness}
use Rattle.curp_msg.specs.Moved.{says}
use Rattle.curp_cmd.specs.Node.{manager_node, client_node}
use Rattle.curp_model.specs.Ranges.{opening_range}
use Rattle.curp_model.specs.Recovery.{Fresh, Recovering, Serving, RecoveryState, RecoveryPhase, Asking, Storing, Waiting, Replayed, replay, MasterStage}
use Rattle.curp_model.specs.Witness.{WitnessState, frozen_requests}
use Rattle.curp_model.specs.World.{World, messages}

-- ---- words

-- a message was sent at some time
pub record WasSent (w : World) (m : Message) : Type 0 where
  pub place : ℕ
  pub stands : At (messages w) place m

-- x is among xs
pub record IsAmong {A : Type 0} (x : A) (xs : List A) : Type 0 where
  pub place : ℕ
  pub stands : At xs place x

-- the range that a partition had at opening
abbrev pub lo_of : World → ℕ → ℕ
lo_of w p = (opening_range w.manager.shape.parts p).lo

-- the last hash of that range
abbrev pub hi_of : World → ℕ → ℕ
hi_of w p = (opening_range w.manager.shape.parts p).hi

-- the log and the last round of a master that has a log, recovering ones included
pub record Logged : Type 0 where
  pub log : List Entry
  pub round : ℕ

-- the log of a recovery, once it has one
abbrev pub phase_log : RecoveryPhase → Option Logged
phase_log (Asking log requests) = None
phase_log (Storing r) = Some (record { log = r.log; round = r.round })
phase_log (Waiting r) = Some (record { log = r.log; round = r.round })

-- a master's log, once it has one
abbrev pub node_log : MasterStage → Option Logged
node_log Fresh = None
node_log (Recovering s) = phase_log s.phase
node_log (Serving m) = Some (record { log = m.log; round = m.round })

-- a master, by its name, with its log
pub record HasLog (w : World) (node : NodeId) (l : Logged) : Type 0 where
  pub m : MasterStage
  pub is : IsMaster w node m
  pub its_log : node_log m ≡ Some l

-- ---- the lists that were given

-- a master of a partition and an epoch, with its lists in a version
pub record Lists : Type 0 where
  pub part : ℕ
  pub epoch : ℕ
  pub version : ℕ
  pub master : NodeId
  pub backups : List NodeId
  pub witnesses : List NodeId

-- the lists of a configuration entry
abbrev pub lists_of_part : PartConfig → Lists
lists_of_part c = record { part = c.part; epoch = c.epoch; version = c.version; master = c.master; backups = c.backups; witnesses = c.witnesses }

-- the lists of an order to recover
abbrev pub lists_of_order : NodeId → Recover → Lists
lists_of_order master o = record { part = o.part; epoch = o.epoch; version = o.version; master = master; backups = o.backups; witnesses = o.witnesses }

-- new lists of the same master
abbrev pub lists_of_prepare : Lists → Prepare → Lists
lists_of_prepare old p = record old { version = p.version; backups = p.backups; witnesses = p.witnesses }

-- at opening, by an order to recover, or by new lists
pub data IsGiven (w : World) : Lists → Type 0 where
  AtOpening : (k : ℕ) (c : PartConfig) → At (opening_config w.manager.shape).parts k c → IsGiven w (lists_of_part c)
  ByRecovery : (node : NodeId) (o : Recover) → WasSent w (says manager_node node (body.Recover o)) → IsGiven w (lists_of_order node o)
  ByReplacement : (old : Lists) (p : Prepare) → IsGiven w old → WasSent w (says manager_node old.master (body.Prepare p)) → IsGiven w (lists_of_prepare old p)

-- those of version 1, and those of which the manager told the master that they are adopted
pub record WasAdopted (w : World) (l : Lists) : Type 0 where
  pub given : IsGiven w l
  pub told : (l.version ≡ 1) ⊎ WasSent w (says manager_node l.master (body.Adopted (record { part = l.part; epoch = l.epoch; version = l.version })))

-- they were adopted before the message of that place was sent
pub record AdoptedBefore (w : World) (place : ℕ) (l : Lists) : Type 0 where
  pub given : IsGiven w l
  pub told : (l.version ≡ 1)
      ⊎ ((k : ℕ) × (k < place) × At (messages w) k (says manager_node l.master (body.Adopted (record { part = l.part; epoch = l.epoch; version = l.version }))))

-- the present entry of a partition
abbrev pub IsAdoptedNow : World → PartConfig → Type 0
IsAdoptedNow w c = numbered w.manager.config.parts c.part ≡ Some c

-- ---- what the manager ordered

-- a master that was given lists of the partition
pub record IsMasterOf (w : World) (part : ℕ) (node : NodeId) : Type 0 where
  pub lists : Lists
  pub given : IsGiven w lists
  pub its_master : lists.master ≡ node
  pub its_part : lists.part ≡ part

-- the manager has sent it to a master of the partition
pub record WasOrdered (w : World) (part : ℕ) (b : Body) : Type 0 where
  pub node : NodeId
  pub is : IsMasterOf w part node
  pub sent : WasSent w (says manager_node node b)

-- ---- the ranges of partitions

-- the migration of that number: its range was ordered to be taken out of its source, and what was taken to be given to its
-- target
pub record WasMigrated (w : World) (number : ℕ) : Type 0 where
  pub source : ℕ
  pub target : ℕ
  pub apart : source ≢ target
  pub order : TakeOut
  pub ordered : WasOrdered w source (body.TakeOut order)
  pub its_order : order.migration ≡ number
  pub parcel : Parcel
  pub given : WasOrdered w target (body.GiveIn parcel)
  pub its_parcel : parcel.migration ≡ number

-- the ranges of each partition at the opening
abbrev pub ranges_at_first : Shape → ℕ → List Span
ranges_at_first s part = ((opening_range s.parts part).lo, (opening_range s.parts part).hi) ∷ []

-- the range has gone from the one partition to the other
abbrev pub ranges_moved : ℕ → ℕ → TakeOut → (ℕ → List Span) → ℕ → List Span
ranges_moved source target order ranges part =
    if part == source then without (ranges part) order.lo order.hi
    else if part == target then with_range (ranges part) order.lo order.hi
    else ranges part

-- The ranges of each partition after the migrations 1 to n: those of the opening, of which each migration has brought its range
-- from its source, which had all of it, to its target
pub data RangesAfter (w : World) : ℕ → (ℕ → List Span) → Type 0 where
  AtFirst : RangesAfter w 0 (ranges_at_first w.manager.shape)
  Migrated : (n : ℕ) (ranges : ℕ → List Span) → RangesAfter w n ranges → (m : WasMigrated w (n + 1))
      → is_covered (ranges m.source) m.order.lo m.order.hi ≡ true
      → RangesAfter w (n + 1) (ranges_moved m.source m.target m.order ranges)

-- all entries of a configuration have the ranges after the same migrations
pub record HasRanges (w : World) (config : Config) : Type 0 where
  pub count : ℕ
  pub ranges : ℕ → List Span
  pub after : RangesAfter w count ranges
  pub has : Each (λ (c : PartConfig). c.ranges ≡ ranges c.part) config.parts

-- ---- completable, and good pairs

-- a reply on its way to its client
abbrev pub reply_message : NodeId → Reply → Message
reply_message node r = says node (client_node r.id.client) (body.Reply r)

-- a master of the partition has sent a synced reply
pub record IsAnswered (w : World) (p : ℕ) (id : RequestId) (a : Answer) : Type 0 where
  pub lists : Lists
  pub given : IsGiven w lists
  pub its_part : lists.part ≡ p
  pub reply : Reply
  pub sent : WasSent w (reply_message lists.master reply)
  pub its_id : reply.id ≡ id
  pub its_answer : reply.answer ≡ a
  pub is_synced : reply.synced ≡ true

-- or an unsynced one, and each witness of that version has accepted at that epoch
pub record IsWitnessed (w : World) (p : ℕ) (id : RequestId) (a : Answer) : Type 0 where
  pub lists : Lists
  pub given : IsGiven w lists
  pub its_part : lists.part ≡ p
  pub reply : Reply
  pub sent : WasSent w (reply_message lists.master reply)
  pub its_id : reply.id ≡ id
  pub its_answer : reply.answer ≡ a
  pub is_early : reply.synced ≡ false
  pub its_epoch : reply.epoch ≡ lists.epoch
  pub its_version : reply.version ≡ lists.version
  pub accepts : Each (λ x. WasSent w (says x (client_node id.client) (body.Accepted (record { id = id; epoch = lists.epoch })))) lists.witnesses

-- what a client has completed with, or may still complete with
abbrev pub Completable : World → ℕ → RequestId → Answer → Type 0
Completable w p id a = IsAnswered w p id a ⊎ IsWitnessed w p id a

-- its request is held, and the replay has it with that answer
pub record IsReplayed (w : World) (p : ℕ) (b : BackupState) (x : WitnessState) (id : RequestId) (a : Answer) : Type 0 where
  pub request : Request
  pub its_id : request.id ≡ id
  pub is_held : IsAmong request (frozen_requests x)
  pub done : IsDone (lo_of w p) (hi_of w p) (replay (lo_of w p) (hi_of w p) b.log (frozen_requests x)) id a

-- what can complete stands in the backup's log, or is held by the witness and replayed with that answer
pub record PairGood (w : World) (p : ℕ) (b : BackupState) (x : WitnessState) : Type 0 where
  pub found : (id : RequestId) (a : Answer) → Completable w p id a
      → Stands (lo_of w p) (hi_of w p) b.log id a ⊎ IsReplayed w p b x id a

-- any pair of each adopted list, stopped ones by their last state
abbrev pub PairsGood : World → Type 0
PairsGood w = (c : PartConfig) → IsAdoptedNow w c → (node other : NodeId) → IsAmong node c.backups → IsAmong other c.witnesses
    → (b : BackupState) (x : WitnessState) → IsBackup w node b → IsWitness w other x → PairGood w c.part b x

-- ---- what a message says stays true

-- the entries of an append stand in its master's log from its base on, and its round was begun
pub record AppendOk (w : World) (from : NodeId) (a : Append) : Type 0 where
  pub l : Logged
  pub its_log : HasLog w from l
  pub part : IsPrefix a.entries (drop a.base l.log)
  pub begun : a.round ≤ l.round

-- the backup is that long, and the round is that of an append of that epoch which was sent to it
pub record StoredOk (w : World) (from to : NodeId) (epoch round long : ℕ) : Type 0 where
  pub b : BackupState
  pub is : IsBackup w from b
  pub low : long ≤ length b.log
  pub append : Append
  pub sent : WasSent w (says to from (body.Append append))
  pub its_epoch : append.epoch ≡ epoch
  pub its_round : append.round ≡ round

-- what a backup's answer to an append says
abbrev pub AppendAnswerOk : World → NodeId → NodeId → Appended → AppendAnswer → Type 0
AppendAnswerOk w from to a (Stored long) = StoredOk w from to a.epoch a.round long
AppendAnswerOk w from to a _ = ⊤

-- the log is that backup's for good: it is fenced above the epoch of its lists
pub record FencedLogOk (w : World) (from : NodeId) (epoch : ℕ) (entries : List Entry) : Type 0 where
  pub b : BackupState
  pub is : IsBackup w from b
  pub its_log : b.log ≡ entries
  pub fenced : epoch ≤ b.fence
  pub lists : Lists
  pub given : IsGiven w lists
  pub its_backup : IsAmong from lists.backups
  pub earlier : lists.epoch < epoch

-- what a backup's answer to a fence says
abbrev pub FenceReplyOk : World → NodeId → ℕ → FenceReply → Type 0
FenceReplyOk w from epoch (Log entries) = FencedLogOk w from epoch entries
FenceReplyOk w from epoch _ = ⊤

-- the requests are that witness's for good: it is frozen
pub record FrozenOk (w : World) (from : NodeId) (requests : List Request) : Type 0 where
  pub x : WitnessState
  pub is : IsWitness w from x
  pub its_requests : frozen_requests x ≡ requests
  pub frozen : x.mode ≡ mode.Frozen

-- the id is held, or a collection of that epoch which lists it was sent to that witness
pub record HeldBy (w : World) (from : NodeId) (id : RequestId) : Type 0 where
  pub x : WitnessState
  pub is : IsWitness w from x
  pub request : Request
  pub its_id : request.id ≡ id
  pub is_held : IsAmong request (frozen_requests x)

-- a collection that lists the id was sent to the witness
pub record WasCollected (w : World) (from : NodeId) (id : RequestId) (epoch : ℕ) : Type 0 where
  pub node : NodeId
  pub gc : Gc
  pub sent : WasSent w (says node from (body.Gc gc))
  pub its_epoch : gc.epoch ≡ epoch
  pub listed : IsAmong id gc.ids

-- what an accept says
abbrev pub AcceptedOk : World → NodeId → Accepted → Type 0
AcceptedOk w from a = HeldBy w from a.id ⊎ WasCollected w from a.id a.epoch

-- the id of a synced reply stands with that answer on each backup of that version's list, and of each later list of the epoch
abbrev pub SyncedOk : World → NodeId → Reply → Type 0
SyncedOk w from r = (l : Lists) → IsGiven w l → l.master ≡ from → r.version ≤ l.version → WasAdopted w l
    → Each (λ node. (b : BackupState) → IsBackup w node b → Stands (lo_of w l.part) (hi_of w l.part) b.log r.id r.answer) l.backups

-- the package is that of the Take of its migration
pub record PackageOk (w : World) (migration : ℕ) (carried : Package) : Type 0 where
  pub node : NodeId
  pub l : Logged
  pub its_log : HasLog w node l
  pub taken : IsAmong (Take migration carried) l.log

-- a master has told the manager this package
pub record WasTaken (w : World) (t : Parcel) : Type 0 where
  pub node : NodeId
  pub told : WasSent w (says node manager_node (body.Taken t))

-- what was told of a migration stands on each backup of the sender's partition's adopted list
abbrev pub OnAdopted : World → ℕ → (List Entry → Type 0) → Type 0
OnAdopted w p Has = (c : PartConfig) → IsAdoptedNow w c → c.part ≡ p → Each (λ node. (b : BackupState) → IsBackup w node b → Has b.log) c.backups

-- the take of a migration stands in a log
abbrev pub TakeStands : ℕ → Package → List Entry → Type 0
TakeStands migration carried log = IsAmong (Take migration carried) log

-- the give of a migration stands in a log
abbrev pub GiveStands : ℕ → List Entry → Type 0
GiveStands migration log = (carried : Package) × IsAmong (Give migration carried) log

-- something of the sender's partition
abbrev pub FromPart : World → NodeId → ((p : ℕ) → Type 0) → Type 0
FromPart w from P = (l : Lists) → IsGiven w l → l.master ≡ from → P l.part

-- What a recovery stands on: a backup that is fenced at its epoch, and a witness that is frozen. Nothing of them changes any more
pub record ReplaySources (w : World) (backup witness : NodeId) (epoch : ℕ) : Type 0 where
  pub b : BackupState
  pub its_backup : IsBackup w backup b
  pub fenced : epoch ≤ b.fence
  pub x : WitnessState
  pub its_witness : IsWitness w witness x
  pub frozen : x.mode ≡ mode.Frozen

-- their replay: the log of the one, and what the other holds
abbrev pub replay_of : {w : World} {backup witness : NodeId} {epoch : ℕ} → (lo hi : ℕ) → ReplaySources w backup witness epoch → List Entry
replay_of lo hi sources = replay lo hi sources.b.log (frozen_requests sources.x)

-- every fresh backup has the whole log as it was at Recovered: the replay over the backup and the witness that were named
pub record RecoveredOk (w : World) (from : NodeId) (epoch : ℕ) : Type 0 where
  pub order : Recover
  pub sent : WasSent w (says manager_node from (body.Recover order))
  pub its_epoch : order.epoch ≡ epoch
  pub sources : ReplaySources w order.backup order.witness epoch
  pub on_all : Each (λ node. (f : BackupState) → IsBackup w node f → IsPrefix (replay_of order.lo order.hi sources) f.log) order.backups

-- an entry that may be pushed while a master switches
abbrev pub IsOnlyExpire : Entry → Type 0
IsOnlyExpire (Expire client) = ⊤
IsOnlyExpire _ = ⊥

-- Prepared of a version was first sent at that place among the messages. The first, since a master that has said it says it
-- again in each round that it begins while it switches, and may have pushed more by then, which its backups needn't have
pub record FirstPrepared (w : World) (from : NodeId) (version place : ℕ) : Type 0 where
  pub prepared : At (messages w) place (says from manager_node (body.Prepared version))
  pub first : (k : ℕ) → At (messages w) k (says from manager_node (body.Prepared version)) → place ≤ k

-- the append that stands at that place goes as far as that into its master's log
pub record ReachesTo (w : World) (from : NodeId) (place reach : ℕ) : Type 0 where
  pub to : NodeId
  pub append : Append
  pub sent : At (messages w) place (says from to (body.Append append))
  pub reach_is : append.base + length append.entries ≡ reach

-- how long a master's log was as it sent the message at that place: as far as any of its appends before it reaches
pub record LengthAt (w : World) (from : NodeId) (place long : ℕ) : Type 0 where
  pub most : (k reach : ℕ) → k < place → ReachesTo w from k reach → reach ≤ long
  pub reached : (k : ℕ) × (k < place) × ReachesTo w from k long

-- an op of that id stands below an index
pub record OpBelow (log : List Entry) (id : RequestId) (long : ℕ) : Type 0 where
  pub index : ℕ
  pub request : Request
  pub acknowledged : ℕ
  pub stands : At log index (Op request acknowledged)
  pub its_id : request.id ≡ id
  pub below : index < long

-- What the master has sent before a place tells of no entry at or past a length: its appends reach no further, and the ops of its
-- unsynced replies stand below. As each step that pushes sends one of these, all that its log had then stands below
pub record ToldWithin (w : World) (from : NodeId) (place : ℕ) (log : List Entry) (long : ℕ) : Type 0 where
  pub within : place ≤ length (messages w)
  pub appends : (k reach : ℕ) → k < place → ReachesTo w from k reach → reach ≤ long
  pub replies : (k : ℕ) (r : Reply) → k < place → At (messages w) k (reply_message from r) → r.synced ≡ false → OpBelow log r.id long

-- Every backup of the prepared list has the log as it was when Prepared of that version was first sent, and its master has
-- pushed no Op, Take or Give since without having taken that list
pub record PreparedOk (w : World) (from : NodeId) (version : ℕ) : Type 0 where
  pub lists : Lists
  pub given : IsGiven w lists
  pub its_master : lists.master ≡ from
  pub its_version : lists.version ≡ version
  pub l : Logged
  pub its_log : HasLog w from l
  pub place : ℕ
  pub first : FirstPrepared w from version place
  pub long : ℕ
  pub then_long : LengthAt w from place long
  pub low : long ≤ length l.log
  pub on_all : Each (λ node. (b : BackupState) → IsBackup w node b → IsPrefix (take long l.log) b.log) lists.backups
  pub since : (m : MasterState) → IsMaster w from (Serving m) → m.version < version → Each IsOnlyExpire (drop long m.log)

-- an entry of a configuration was adopted
abbrev pub EntryWas : World → PartConfig → Type 0
EntryWas w c = WasAdopted w (lists_of_part c)

-- each entry of a configuration was adopted, and all have the ranges after the same migrations. So no hash is in those of two
pub record ConfigOk (w : World) (config : Config) : Type 0 where
  pub entries : Each (EntryWas w) config.parts
  pub ranges : HasRanges w config
  pub apart : (c d : PartConfig) (h : ℕ) → IsAmong c config.parts → IsAmong d config.parts → Owns c.ranges h → Owns d.ranges h
      → c.part ≡ d.part

-- it is a master that had lists of that epoch, and of that version
pub record Speaks (w : World) (from : NodeId) (epoch version : ℕ) : Type 0 where
  pub lists : Lists
  pub adopted : WasAdopted w lists
  pub its_master : lists.master ≡ from
  pub its_epoch : lists.epoch ≡ epoch
  pub its_version : lists.version ≡ version

-- it is a master that has served, in that epoch
pub record HasServed (w : World) (from : NodeId) (epoch : ℕ) : Type 0 where
  pub version : ℕ
  pub speaks : Speaks w from epoch version

-- it is a master that has served
pub record IsServer (w : World) (from : NodeId) : Type 0 where
  pub epoch : ℕ
  pub served : HasServed w from epoch

-- what a reply says
abbrev pub ReplyOk : World → NodeId → Reply → Bool → Type 0
ReplyOk w from r true = Speaks w from r.epoch r.version × SyncedOk w from r
ReplyOk w from r false = Speaks w from r.epoch r.version

-- what a message says, by its kind
abbrev pub BodyOk : World → NodeId → NodeId → Body → Type 0
BodyOk w from to (body.Update ask) = ⊤
BodyOk w from to (body.Sync ask) = ⊤
BodyOk w from to (body.Read ask) = ⊤
BodyOk w from to (body.Glance ask) = ⊤
BodyOk w from to (body.Record r) = ⊤
BodyOk w from to (body.Probe p) = ⊤
BodyOk w from to body.Fetch = ⊤
BodyOk w from to (body.Configuration config) = ConfigOk w config
BodyOk w from to (body.Reply r) = ReplyOk w from r r.synced
BodyOk w from to (body.Worth v) = HasServed w from v.epoch
BodyOk w from to (body.Quick q) = Speaks w from q.epoch q.version
BodyOk w from to (body.Refuse r) = ⊤
BodyOk w from to (body.Accepted a) = AcceptedOk w from a
BodyOk w from to (body.Rejected r) = ⊤
BodyOk w from to (body.Probed a) = ⊤
BodyOk w from to (body.Append a) = AppendOk w from a
BodyOk w from to (body.Appended a) = AppendAnswerOk w from to a a.answer
BodyOk w from to (body.Gc g) = HasServed w from g.epoch
BodyOk w from to (body.Collected c) = ⊤
BodyOk w from to (body.Install epoch) = ⊤
BodyOk w from to (body.Start s) = ⊤
BodyOk w from to (body.Recover o) = ⊤
BodyOk w from to (body.Fence epoch) = ⊤
BodyOk w from to (body.FenceAnswer a) = FenceReplyOk w from a.epoch a.answer
BodyOk w from to (body.Freeze epoch) = ⊤
BodyOk w from to (body.FrozenAnswer requests) = FrozenOk w from requests
BodyOk w from to (body.Recovered r) = RecoveredOk w from r.epoch
BodyOk w from to (body.Adopted a) = ⊤
BodyOk w from to (body.Prepare p) = ⊤
BodyOk w from to (body.Prepared version) = PreparedOk w from version
BodyOk w from to (body.TakeOut t) = ⊤
BodyOk w from to (body.Taken t) = IsServer w from × PackageOk w t.migration t.package × FromPart w from (λ p. OnAdopted w p (TakeStands t.migration t.package))
BodyOk w from to (body.GiveIn t) = WasTaken w t × PackageOk w t.migration t.package
BodyOk w from to (body.Given migration) = IsServer w from × FromPart w from (λ p. OnAdopted w p (GiveStands migration))
BodyOk w from to (body.ExpireClient client) = ⊤

-- Of every message ever sent: its sender and its addressee are nodes, and what it says is so
pub record MessageOk (w : World) (m : Message) : Type 0 where
  pub sender : IsNode w m.from
  pub addressee : IsNode w m.to
  pub says_so : BodyOk w m.from m.to m.body

-- a recovering master's log, once it has one, is the replay over the backup and the witness that its order named
pub record ReplayOk (w : World) (s : RecoveryState) (r : Replayed) : Type 0 where
  pub sources : ReplaySources w s.order.backup s.order.witness s.order.epoch
  pub is : r.log ≡ replay_of s.order.lo s.order.hi sources
  pub its_cut : r.cut ≡ length sources.b.log

-- what a recovery keeps, by its phase
abbrev pub PhaseOk : World → RecoveryState → RecoveryPhase → Type 0
PhaseOk w s (Asking log requests) = ⊤
PhaseOk w s (Storing r) = ReplayOk w s r
PhaseOk w s (Waiting r) = ReplayOk w s r

-- while an attempt is the newest and unfinished, the two that it names are of the adopted list
abbrev pub AttemptOk : PartConfig → Option Doing → Type 0
AttemptOk c (Some (manager.Recovering node o)) = IsAmong o.backup c.backups × IsAmong o.witness c.witnesses
AttemptOk c _ = ⊤

-- an attempt of a client was made by adopted lists
pub record AttemptWas (w : World) (a : Attempt) : Type 0 where
  pub lists : Lists
  pub adopted : WasAdopted w lists
  pub its_master : a.master ≡ lists.master
  pub its_epoch : a.epoch ≡ lists.epoch
  pub its_version : a.version ≡ lists.version
  pub its_witnesses : a.witnesses ≡ lists.witnesses

-- what was said, and what recoveries, the manager and clients go by
pub record SaidOk (w : World) : Type 0 where
  pub messages_ok : Each (MessageOk w) (messages w)
  pub recoveries : (node : NodeId) (s : RecoveryState) → IsMaster w node (Recovering s) → PhaseOk w s s.phase
  pub attempts : Each (λ c. AttemptOk c (numbered w.manager.doing c.part)) w.manager.config.parts
  pub config : ConfigOk w w.manager.config
  pub configs : Each (λ (c : ClientState). ConfigOk w c.config) w.clients
  pub sendings : Each (λ (c : ClientState). Each (λ (p : Pending). Each (AttemptWas w) p.attempts) c.pending) w.clients
