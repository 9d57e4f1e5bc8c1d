-- What holds after every step of the nodes and of the order, as statements (this project's own).
use Rattle.std.specs.Prelude.{◌≡◌, ◌≢◌, ◌≤◌, ◌<◌, ◌⊎◌, ℕ, ◌^◌, true, false, List, [], length, take, Some, ⊤}
use Rattle.std.specs.Cmp.Lexicographic.{slice_cmp}
use Rattle.std.specs.FinMap as store
use Rattle.std.specs.FinMap.Entries.{find}
use Rattle.std.specs.List.{IsDistinct}
use Rattle.std.specs.Ordering.{nat_cmp}
use Rattle.curp_base.specs.Words.{At, Each, IsPrefix}
use Rattle.curp_cmd.specs.Hash.{hash_of, hashes}
use Rattle.curp_cmd.specs.Store.{Contents, nothing, applied}
use Rattle.curp_cmd.specs.declared.command.Answer.{Answer}
use Rattle.curp_cmd.specs.declared.command.Request.{Request}
use Rattle.curp_cmd.specs.declared.command.Command.{Command}
use Rattle.curp_cmd.specs.declared.command.RequestId.{RequestId}
use Rattle.curp_cmd.specs.declared.entry.Entry.{Entry}
use Rattle.curp_cmd.specs.declared.entry.Entry.TheVariants.{Op, Take, Give}
use Rattle.curp_cmd.specs.declared.migration.Package.{Package}
use Rattle.curp_cmd.specs.declared.node.NodeId.{NodeId}
use Rattle.curp_msg.specs.declared.answer.AppendAnswer.TheVariants.{Stored}
use Rattle.curp_msg.specs.declared.answer.FenceReply.{FenceReply}
use Rattle.curp_msg.specs.declared.answer.FenceReply.TheVariants.{Log}
use Rattle.curp_msg.specs.declared.answer.GcAnswer.{GcAnswer}
use Rattle.curp_msg.specs.declared.answer.GcAnswer.TheVariants.{Suspects}
use Rattle.curp_msg.specs.declared.answer.Refusal.{Refusal}
use Rattle.curp_msg.specs.declared.answer.Refusal.TheVariants as refusal
use Rattle.curp_msg.specs.declared.body.Appended.{Appended}
use Rattle.curp_msg.specs.declared.body.Body.{Body}
use Rattle.curp_msg.specs.declared.body.Body.TheVariants as body
use Rattle.curp_msg.specs.declared.body.Parcel.{Parcel}
use Rattle.curp_msg.specs.declared.body.Recover.{Recover}
use Rattle.curp_msg.specs.declared.body.TakeOut.{TakeOut}
use Rattle.curp_msg.specs.declared.message.Message.{Message}
use Rattle.curp_msg.specs.declared.body.Gc.{Gc}
use Rattle.curp_msg.specs.declared.body.Reply.{Reply}
use Rattle.curp_msg.specs.declared.body.Worth.{Worth}
use Rattle.curp_msg.specs.declared.config.PartConfig.{PartConfig}
use Rattle.curp_order.specs.Order.{answers, store_after}
use Rattle.curp_order.specs.declared.Event.TheVariants.{Complete, Invoke}
use Rattle.curp_range.specs.Spans.{Owns, is_in}
use Rattle.curp_model.specs.declared.Check.{Check}
use Rattle.curp_model.specs.declared.Mode.TheVariants as mode
use Rattle.curp_model.specs.declared.Check.TheVariants.{Expired, Stale, Known, New}
use Rattle.curp_model.specs.Backup.{BackupState}
use Rattle.curp_facts.specs.Facts.{AdoptedBefore, Completable, HasLog, IsAdoptedNow, IsAmong, IsGiven, Lists, Logged, PairsGood, SaidOk, ToldWithin, WasAdopted, WasOrdered, WasSent, hi_of, lists_of_part, lo_of, reply_message, ReplaySources, replay_of}
use Rattle.curp_facts.specs.Names.{Agree, GivenOk, Top}
use Rattle.curp_model.specs.Laws.{clash}
use Rattle.curp_model.specs.Log.{IsLog, IsDone, LogState, entry_touches, meaning}
use Rattle.curp_model.specs.Manager.{Migration}
use Rattle.curp_model.specs.Marks.{Mark, Looked, shown}
use Rattle.curp_model.specs.Master as master
use Rattle.curp_model.specs.Master.{MasterState, Captured, from_backup, has}
use Rattle.curp_cmd.specs.Node.{is_among, client_node, manager_node}
use Rattle.curp_msg.specs.Moved.{says}
use Rattle.curp_model.specs.Named.{IsBackup, IsMaster, IsWitness}
use Rattle.curp_model.specs.Recovery.{Recovering, RecoveryState, Replayed, Serving, Storing, Waiting}
use Rattle.curp_model.specs.Table.{check}
use Rattle.curp_model.specs.Witness.{WitnessState, frozen_requests}
use Rattle.curp_msg.specs.declared.body.Quick.{Quick}
use Rattle.curp_msg.specs.declared.body.Probed.{Probed}
use Rattle.curp_cmd.specs.declared.command.Command.TheVariants.{Get}
use Rattle.curp_model.specs.Marks as marking
use Rattle.curp_model.specs.World.{World, messages, order}

-- ---- lists and names

-- The present entry of a partition was adopted, and is above all that were adopted before. Its master is a node of the world, and
-- so are its f backups and its f witnesses, and no two of a list are one
pub record HasEntry (w : World) (part : ℕ) : Type 0 where
  pub entry : PartConfig
  pub now : IsAdoptedNow w entry
  pub its_part : entry.part ≡ part
  pub top : Top w (lists_of_part entry)
  pub whole : GivenOk w (lists_of_part entry)

-- each partition has one
abbrev pub PartsHaveEntries : World → Type 0
PartsHaveEntries w = (part : ℕ) → 1 ≤ part → part ≤ w.manager.shape.parts → HasEntry w part

-- all lists that were ever given are so: their numbers were used, and they have f backups and f witnesses, all different nodes of
-- the world
abbrev pub ListsWhole : World → Type 0
ListsWhole w = (l : Lists) → IsGiven w l → GivenOk w l

-- no master, epoch, version, backup or witness is given twice
abbrev pub GivenOnce : World → Type 0
GivenOnce w = (l k : Lists) → IsGiven w l → IsGiven w k → Agree l k

-- no number of a migration is given twice: it has one range and one source, and one target, which is another partition
pub record MigrationsGivenOnce (w : World) : Type 0 where
  pub one_source : (part other : ℕ) (t u : TakeOut) → WasOrdered w part (body.TakeOut t) → WasOrdered w other (body.TakeOut u)
      → t.migration ≡ u.migration → (part ≡ other) × (t.lo ≡ u.lo) × (t.hi ≡ u.hi)
  pub one_target : (part other : ℕ) (g k : Parcel) → WasOrdered w part (body.GiveIn g) → WasOrdered w other (body.GiveIn k)
      → g.migration ≡ k.migration → part ≡ other
  pub apart : (part other : ℕ) (t : TakeOut) (g : Parcel) → WasOrdered w part (body.TakeOut t) → WasOrdered w other (body.GiveIn g)
      → t.migration ≡ g.migration → part ≢ other

-- ---- what witnesses hold

-- of what a witness holds no two requests have one id or conflict, so that it may be replayed in any order
abbrev pub HeldApart : World → Type 0
HeldApart w = (node : NodeId) (x : WitnessState) → IsWitness w node x → IsDistinct clash (frozen_requests x)

-- ---- logs

-- the logs of all masters, recovering ones included, are logs
abbrev pub LogsAreLogs : World → Type 0
LogsAreLogs w = (l : Lists) → IsGiven w l → (its : Logged) → HasLog w l.master its → IsLog (lo_of w l.part) (hi_of w l.part) its.log

-- a backup's log is a beginning of that of the master of its partition and epoch
pub record FollowsLog (w : World) (l : Lists) (b : BackupState) : Type 0 where
  pub its : Logged
  pub its_log : HasLog w l.master its
  pub prefix : IsPrefix b.log its.log

-- which knows no more of the backup than there is, and of no round that it hasn't begun
pub record KnowsNoMore (w : World) (l : Lists) (node : NodeId) (b : BackupState) : Type 0 where
  pub known : (m : MasterState) → IsMaster w l.master (Serving m)
      → ((from_backup m.acknowledged node).length ≤ length b.log) × ((from_backup m.acknowledged node).round ≤ m.round)
  pub complete : (s : RecoveryState) (r : Replayed) → IsMaster w l.master (Recovering s) → (s.phase ≡ Storing r) ⊎ (s.phase ≡ Waiting r)
      → is_among node r.complete ≡ true → IsPrefix r.log b.log

-- each backup follows its master's log
abbrev pub BackupsFollow : World → Type 0
BackupsFollow w = (l : Lists) → IsGiven w l → (node : NodeId) → IsAmong node l.backups → (b : BackupState) → IsBackup w node b
    → ((b.log ≡ []) ⊎ FollowsLog w l b) × KnowsNoMore w l node b

-- the lists that a master serves by
abbrev pub lists_of_master : NodeId → MasterState → Lists
lists_of_master node m =
    record { part = m.part; epoch = m.epoch; version = m.version; master = node; backups = m.backups; witnesses = m.witnesses }

-- a serving master has the last lists that were adopted for its epoch
pub record ServesLast (w : World) (node : NodeId) (m : MasterState) : Type 0 where
  pub adopted : WasAdopted w (lists_of_master node m)
  pub last : (l : Lists) → WasAdopted w l → l.master ≡ node → l.epoch ≡ m.epoch → l.version ≤ m.version

-- each serving master serves by the last lists
abbrev pub MastersFollow : World → Type 0
MastersFollow w = (node : NodeId) (m : MasterState) → IsMaster w node (Serving m) → m.phase ≡ master.Open → ServesLast w node m

-- ---- early replies

-- The Op of an unsynced reply is free: between what was synced in that step and its index no entry touches its hashes, and
-- what was synced is on each backup of that version's list
pub record EarlyOk (w : World) (l : Lists) (r : Reply) : Type 0 where
  pub its : Logged
  pub its_log : HasLog w l.master its
  pub done : IsDone (lo_of w l.part) (hi_of w l.part) its.log r.id r.answer
  pub free : (m : MasterState) → IsMaster w l.master (Serving m) → has done.index m.free ≡ true
  pub synced : ℕ
  pub below : synced ≤ done.index
  pub apart : (k : ℕ) (e : Entry) → synced ≤ k → k < done.index → At its.log k e → Each (λ h. entry_touches e h ≡ false) (hashes done.request.command)
  pub stored : Each (λ node. (b : BackupState) → IsBackup w node b → synced ≤ length b.log) l.backups

-- each unsynced reply is of a free op
abbrev pub EarlyRepliesOk : World → Type 0
EarlyRepliesOk w = (l : Lists) → IsGiven w l → (r : Reply) → WasSent w (reply_message l.master r) → r.synced ≡ false → r.version ≡ l.version
    → EarlyOk w l r

-- ---- collections

-- what the check says of an id that may be collected
abbrev pub IsCollectable : Check → Type 0
IsCollectable (Known a index) = ⊤
IsCollectable (Stale first) = ⊤
IsCollectable Expired = ⊤
IsCollectable New = ⊥

-- After so many entries the id stands in the log, or is stale or expired, and every backup of a list that was adopted before
-- the collection was sent, and of each later list of the epoch, has so many
pub record CollectionOk (w : World) (place : ℕ) (node to : NodeId) (epoch : ℕ) (id : RequestId) : Type 0 where
  pub lists : Lists
  pub its_epoch : lists.epoch ≡ epoch
  pub its_witness : IsAmong to lists.witnesses
  pub adopted : AdoptedBefore w place lists
  pub its_master : lists.master ≡ node
  pub its : Logged
  pub its_log : HasLog w node its
  pub count : ℕ
  pub checked : IsCollectable (check (meaning (lo_of w lists.part) (hi_of w lists.part) (take count its.log)).table id)
  pub stored : (l : Lists) → WasAdopted w l → l.master ≡ node → lists.version ≤ l.version
      → Each (λ backup. (b : BackupState) → IsBackup w backup b → count ≤ length b.log) l.backups

-- each id of a collection may be collected
abbrev pub CollectionsOk : World → Type 0
CollectionsOk w = (place : ℕ) (node to : NodeId) (gc : Gc) → At (messages w) place (says node to (body.Gc gc))
    → Each (CollectionOk w place node to gc.epoch) gc.ids

-- ---- first numbers

-- a client has completed all its requests below a number
abbrev pub HasCompletedBelow : World → ℕ → ℕ → Type 0
HasCompletedBelow w client first = (seq : ℕ) → 1 ≤ seq → seq < first → (i : ℕ) × (a : Answer) × At w.history i (Complete (record { client = client; seq = seq }) a)

-- the same of a line of a table's first numbers
abbrev pub AllCompletedBelow : World → ℕ × ℕ → Type 0
AllCompletedBelow w line = HasCompletedBelow w line.0 line.1

-- the first number that a request carries, and the one that an entry acknowledges
abbrev pub RequestFirstOk : World → Request → Type 0
RequestFirstOk w r = HasCompletedBelow w r.id.client r.first

-- the first numbers of an entry
abbrev pub EntryFirstOk : World → Entry → Type 0
EntryFirstOk w (Op r acknowledged) = RequestFirstOk w r × HasCompletedBelow w r.id.client acknowledged
EntryFirstOk w (Take migration taken) = Each (AllCompletedBelow w) taken.table.firsts
EntryFirstOk w (Give migration given) = Each (AllCompletedBelow w) given.table.firsts
EntryFirstOk w _ = ⊤

-- the first numbers of a backup's log
abbrev pub ReplyFirstOk : World → FenceReply → Type 0
ReplyFirstOk w (Log entries) = Each (EntryFirstOk w) entries
ReplyFirstOk w _ = ⊤

-- the first numbers of suspects
abbrev pub SuspectsFirstOk : World → GcAnswer → Type 0
SuspectsFirstOk w (Suspects requests) = Each (RequestFirstOk w) requests
SuspectsFirstOk w _ = ⊤

-- the first number that a refusal tells
abbrev pub RefusalFirstOk : World → ℕ → Refusal → Type 0
RefusalFirstOk w client (refusal.Stale first) = HasCompletedBelow w client first
RefusalFirstOk w client _ = ⊤

-- the first numbers of a message
abbrev pub BodyFirstOk : World → Body → Type 0
BodyFirstOk w (body.Update ask) = RequestFirstOk w ask.request
BodyFirstOk w (body.Sync ask) = RequestFirstOk w ask.request
BodyFirstOk w (body.Read ask) = RequestFirstOk w ask.request
BodyFirstOk w (body.Glance ask) = RequestFirstOk w ask.request
BodyFirstOk w (body.Record r) = RequestFirstOk w r.request
BodyFirstOk w (body.Probe p) = ⊤
BodyFirstOk w body.Fetch = ⊤
BodyFirstOk w (body.Configuration config) = ⊤
BodyFirstOk w (body.Reply r) = ⊤
BodyFirstOk w (body.Worth v) = ⊤
BodyFirstOk w (body.Quick q) = ⊤
BodyFirstOk w (body.Refuse r) = RefusalFirstOk w r.id.client r.refusal
BodyFirstOk w (body.Accepted a) = ⊤
BodyFirstOk w (body.Rejected r) = ⊤
BodyFirstOk w (body.Probed a) = ⊤
BodyFirstOk w (body.Append a) = Each (EntryFirstOk w) a.entries
BodyFirstOk w (body.Appended a) = ⊤
BodyFirstOk w (body.Gc g) = ⊤
BodyFirstOk w (body.Collected c) = SuspectsFirstOk w c.answer
BodyFirstOk w (body.Install epoch) = ⊤
BodyFirstOk w (body.Start s) = ⊤
BodyFirstOk w (body.Recover o) = ⊤
BodyFirstOk w (body.Fence epoch) = ⊤
BodyFirstOk w (body.FenceAnswer a) = ReplyFirstOk w a.answer
BodyFirstOk w (body.Freeze epoch) = ⊤
BodyFirstOk w (body.FrozenAnswer requests) = Each (RequestFirstOk w) requests
BodyFirstOk w (body.Recovered r) = ⊤
BodyFirstOk w (body.Adopted a) = ⊤
BodyFirstOk w (body.Prepare p) = ⊤
BodyFirstOk w (body.Prepared version) = ⊤
BodyFirstOk w (body.TakeOut t) = ⊤
BodyFirstOk w (body.Taken t) = Each (AllCompletedBelow w) t.package.table.firsts
BodyFirstOk w (body.GiveIn t) = Each (AllCompletedBelow w) t.package.table.firsts
BodyFirstOk w (body.Given migration) = ⊤
BodyFirstOk w (body.ExpireClient client) = ⊤

-- each first number in a log, a package or a message is one below which its client has completed all
pub record FirstNumbersOk (w : World) : Type 0 where
  pub in_logs : (l : Lists) → IsGiven w l → (its : Logged) → HasLog w l.master its → Each (EntryFirstOk w) its.log
  pub in_messages : Each (λ (m : Message). BodyFirstOk w m.body) (messages w)

-- ---- adoption

-- The log of an adopted recovery began as the replay of a fenced backup and a frozen witness of the lists before it, and
-- every fresh backup has it whole
pub record AdoptionOk (w : World) (l : Lists) : Type 0 where
  pub before : Lists
  pub was : WasAdopted w before
  pub its_part : before.part ≡ l.part
  pub earlier : before.epoch < l.epoch
  pub node : NodeId
  pub named : IsAmong node before.backups
  pub other : NodeId
  pub named_too : IsAmong other before.witnesses
  pub sources : ReplaySources w node other l.epoch
  pub last : (o : Lists) → WasAdopted w o → o.part ≡ l.part → o.epoch < l.epoch → o.version ≤ before.version
  pub order : Recover
  pub ordered : WasSent w (says manager_node l.master (body.Recover order))
  pub its_epoch : order.epoch ≡ l.epoch
  pub its_node : order.backup ≡ node
  pub its_other : order.witness ≡ other
  pub its : Logged
  pub its_log : HasLog w l.master its
  pub began : IsPrefix (replay_of (lo_of w l.part) (hi_of w l.part) sources) its.log
  pub on_all : Each (λ fresh. (f : BackupState) → IsBackup w fresh f → IsPrefix (replay_of (lo_of w l.part) (hi_of w l.part) sources) f.log) l.backups

-- each adopted recovery began so
abbrev pub AdoptionsOk : World → Type 0
AdoptionsOk w = (l : Lists) → WasAdopted w l → 1 < l.epoch → AdoptionOk w l

-- ---- ownership, and the stores together

-- the meaning of the adopted log of a partition
pub record AdoptedLog (w : World) (c : PartConfig) : Type 0 where
  pub now : IsAdoptedNow w c
  pub its : Logged
  pub its_log : HasLog w c.master its

-- what an adopted log means
abbrev pub adopted_meaning : (w : World) (c : PartConfig) → AdoptedLog w c → LogState
adopted_meaning w c l = meaning (lo_of w c.part) (hi_of w c.part) l.its.log

-- the hash lies in the range of the migration in work, whose Take stands in an adopted log and whose Give stands in none
pub record OnItsWay (w : World) (h : ℕ) : Type 0 where
  pub migration : Migration
  pub in_work : w.manager.moving ≡ Some migration
  pub inside : is_in migration.range.lo migration.range.hi h ≡ true
  pub carried : Package
  pub source : PartConfig
  pub source_log : AdoptedLog w source
  pub taken : IsAmong (Take migration.number carried) source_log.its.log
  pub nowhere : (c : PartConfig) (l : AdoptedLog w c) (p : Package) → IsAmong (Give migration.number p) l.its.log → ⊥

-- one partition owns the hash, and no other
pub record OwnedByOne (w : World) (h : ℕ) : Type 0 where
  pub owner : PartConfig
  pub owner_log : AdoptedLog w owner
  pub owns : Owns (adopted_meaning w owner owner_log).owned h
  pub alone : (c : PartConfig) (l : AdoptedLog w c) → Owns (adopted_meaning w c l).owned h → c.part ≡ owner.part

-- each hash has one owner, or is on its way
abbrev pub HashesOwned : World → Type 0
HashesOwned w = (h : ℕ) → h < 2 ^ 64 → OwnedByOne w h ⊎ OnItsWay w h

-- the store of one thread over the marks
abbrev pub marks_store : World → Contents
marks_store w = store_after nothing (order w)

-- it has at each key what the owner's store has, or what the package on its way has
pub record StoresTogether (w : World) : Type 0 where
  pub owned : (key : List ℕ) (o : OwnedByOne w (hash_of key)) → store.get (marks_store w) key ≡ store.get (adopted_meaning w o.owner o.owner_log).store key
  pub moving : (key : List ℕ) (o : OnItsWay w (hash_of key)) → store.get (marks_store w) key ≡ find (slice_cmp nat_cmp) key o.carried.pairs

-- ---- values, and captures that wait

-- the mark of that master's capture is kept, and one thread at that mark gives the value
pub record ValueMarked (w : World) (master : NodeId) (part epoch capture : ℕ) (id : RequestId) (a : Answer) : Type 0 where
  pub place : ℕ
  pub mark : Mark
  pub stands : At w.marks place mark
  pub its_master : mark.master ≡ master
  pub its_part : mark.part ≡ part
  pub its_epoch : mark.epoch ≡ epoch
  pub its_id : mark.id ≡ id
  pub length : ℕ
  pub is_capture : mark.place ≡ Looked capture length
  pub gives : (applied (store_after nothing (shown (take place w.marks))) mark.command).answer ≡ a

-- each value that was sent has its mark
abbrev pub ValuesMarked : World → Type 0
ValuesMarked w = (l : Lists) → IsGiven w l → (v : Worth) → WasSent w (says l.master (client_node v.id.client) (body.Worth v))
    → ValueMarked w l.master l.part l.epoch v.capture v.id v.answer

-- neither what the master knows of the backup nor any answer that the backup sent is of that round
pub record NeverSoLate (w : World) (l : Lists) (m : MasterState) (c : Captured) (node : NodeId) : Type 0 where
  pub known : (from_backup m.acknowledged node).round < c.round
  pub sent : (a : Appended) (long : ℕ) → WasSent w (says node l.master (body.Appended a)) → a.epoch ≡ l.epoch → a.answer ≡ Stored long → a.round < c.round

-- A later recovery was adopted, and the backup that the first such one named is fenced above, and has a log too short for the
-- capture, or has acknowledged no round so late, nor ever will
pub record PassedBy (w : World) (l : Lists) (m : MasterState) (c : Captured) : Type 0 where
  pub later : Lists
  pub adopted : WasAdopted w later
  pub its_part : later.part ≡ l.part
  pub above : l.epoch < later.epoch
  pub first : (other : Lists) → WasAdopted w other → other.part ≡ l.part → l.epoch < other.epoch → later.epoch ≤ other.epoch
  pub order : Recover
  pub ordered : WasSent w (says manager_node later.master (body.Recover order))
  pub b : BackupState
  pub is : IsBackup w order.backup b
  pub fenced : l.epoch < b.fence
  pub passed : (length b.log < c.length) ⊎ NeverSoLate w l m c order.backup

-- the quick mark of that master's capture is kept, and one thread at that mark gives the answer
pub record QuickMarked (w : World) (master : NodeId) (part : ℕ) (q : Quick) : Type 0 where
  pub place : ℕ
  pub mark : Mark
  pub stands : At w.marks place mark
  pub its_master : mark.master ≡ master
  pub its_part : mark.part ≡ part
  pub its_epoch : mark.epoch ≡ q.epoch
  pub its_id : mark.id ≡ q.id
  pub is_quick : mark.place ≡ marking.Quick q.capture
  pub gives : (applied (store_after nothing (shown (take place w.marks))) mark.command).answer ≡ q.answer

-- each read that was answered at once has its mark
abbrev pub QuicksMarked : World → Type 0
QuicksMarked w = (l : Lists) → IsGiven w l → (q : Quick) → WasSent w (says l.master (client_node q.id.client) (body.Quick q))
    → QuickMarked w l.master l.part q

-- All entries of its master's log that touched the key of a read as it was answered at once are in the log of each backup of each
-- adopted list of its master, from that version on
pub record QuickStored (w : World) (place : ℕ) (l : Lists) (q : Quick) : Type 0 where
  pub event : ℕ
  pub key : List ℕ
  pub invoked : At w.history event (Invoke q.id (Get key))
  pub its : Logged
  pub its_log : HasLog w l.master its
  pub long : ℕ
  pub low : long ≤ length its.log
  pub then_long : ToldWithin w l.master place its.log long
  pub stored : (k : ℕ) (e : Entry) → k < long → At its.log k e → entry_touches e (hash_of key) ≡ true
      → (later : Lists) → WasAdopted w later → later.master ≡ l.master → q.version ≤ later.version
      → Each (λ node. (b : BackupState) → IsBackup w node b → At b.log k e) later.backups

-- so it is with each
abbrev pub QuicksStored : World → Type 0
QuicksStored w = (place : ℕ) (l : Lists) → IsGiven w l → (q : Quick)
    → At (messages w) place (says l.master (client_node q.id.client) (body.Quick q))
    → QuickStored w place l q

-- a recovery by that order is adopted
abbrev pub adopted_by : Recover → Body
adopted_by order = body.Adopted (record { part = order.part; epoch = order.epoch; version = order.version })

-- a witness that an adopted recovery named has said Live only before that recovery was adopted
abbrev pub LivesEarly : World → Type 0
LivesEarly w = (l : Lists) → WasAdopted w l → (order : Recover) → WasSent w (says manager_node l.master (body.Recover order))
    → (i j : ℕ) (to : NodeId) (a : Probed) → At (messages w) i (says order.witness to (body.Probed a)) → a.live ≡ true
    → At (messages w) j (says manager_node l.master (adopted_by order)) → i < j

-- each capture that waits is marked or passed by
abbrev pub CapturesOk : World → Type 0
CapturesOk w = (l : Lists) → IsGiven w l → (m : MasterState) → IsMaster w l.master (Serving m)
    → Each (λ c. ValueMarked w l.master l.part l.epoch c.number c.id c.answer ⊎ PassedBy w l m c) m.captures

-- ---- late replies

-- the order shows the request, and one thread gives it that answer there
pub record ShowsAnswer (marks : List Mark) (id : RequestId) (a : Answer) : Type 0 where
  pub place : ℕ
  pub x : RequestId × Command
  pub stands : At (shown marks) place x
  pub its_id : x.0 ≡ id
  pub answer : At (answers (shown marks)) place a

-- what a client has completed with, or may still complete with, stands in the order with that answer
abbrev pub LateRepliesAgree : World → Type 0
LateRepliesAgree w = (part : ℕ) (id : RequestId) (a : Answer) → Completable w part id a → ShowsAnswer w.marks id a

-- ---- all together

-- what holds after every step of lists, names and migrations, of what was said, of logs, nodes, early replies, collections, first
-- numbers and adoptions
pub record FactsKept (w : World) : Type 0 where
  pub entries : PartsHaveEntries w
  pub lists : ListsWhole w
  pub names : GivenOnce w
  pub migrations : MigrationsGivenOnce w
  pub held : HeldApart w
  pub said : SaidOk w
  pub logs : LogsAreLogs w
  pub backups : BackupsFollow w
  pub masters : MastersFollow w
  pub early : EarlyRepliesOk w
  pub collections : CollectionsOk w
  pub firsts : FirstNumbersOk w
  pub adoptions : AdoptionsOk w

-- what holds after every step
pub record Kept (w : World) : Type 0 where
  pub pairs : PairsGood w
  pub facts : FactsKept w
  pub owned : HashesOwned w
  pub stores : StoresTogether w
  pub values : ValuesMarked w
  pub captures : CapturesOk w
  pub late : LateRepliesAgree w
  pub quick : QuicksMarked w
  pub seen : QuicksStored w
  pub lives : LivesEarly w
