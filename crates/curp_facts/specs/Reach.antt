-- How far the logs of backups reach, as messages of a master say it, and what these messages say.
use Rattle.std.specs.Prelude.{◌≡◌, ◌≤◌, ◌<◌, ◌⊎◌, ℕ, ◌+◌, true, false, List, length, take}
use Rattle.curp_base.specs.Words.{At, Each}
use Rattle.curp_cmd.specs.declared.command.Answer.{Answer}
use Rattle.curp_cmd.specs.declared.command.Request.{Request}
use Rattle.curp_cmd.specs.declared.command.RequestId.{RequestId}
use Rattle.curp_cmd.specs.declared.entry.Entry.{Entry}
use Rattle.curp_cmd.specs.declared.entry.Entry.TheVariants.{Op, Give}
use Rattle.curp_cmd.specs.declared.node.NodeId.{NodeId}
use Rattle.curp_msg.specs.declared.body.Body.TheVariants as body
use Rattle.curp_msg.specs.declared.body.Recover.{Recover}
use Rattle.curp_msg.specs.declared.body.Reply.{Reply}
use Rattle.curp_model.specs.Backup.{BackupState}
use Rattle.curp_facts.specs.Facts.{IsAmong, IsGiven, HasLog, Lists, Logged, WasAdopted, WasSent, hi_of, lo_of, ToldWithin}
use Rattle.curp_facts.specs.Kept.{IsCollectable}
use Rattle.curp_model.specs.Log.{answer_after, entry_touches, meaning}
use Rattle.curp_model.specs.Master.{MasterState, has}
use Rattle.curp_cmd.specs.Node.{manager_node, client_node}
use Rattle.curp_msg.specs.Moved.{says}
use Rattle.curp_model.specs.Named.{IsBackup, IsMaster}
use Rattle.curp_model.specs.Recovery.{Serving}
use Rattle.curp_cmd.specs.Hash.{hashes, hash_of}
use Rattle.curp_model.specs.Table.{check}
use Rattle.curp_model.specs.World.{World, messages}
use Rattle.curp_msg.specs.declared.body.Quick.{Quick}
use Rattle.curp_cmd.specs.declared.command.Command.TheVariants.{Get}
use Rattle.curp_order.specs.declared.Event.TheVariants.{Invoke}
use Rattle.curp_range.specs.Spans.{is_owned}

-- the manager was told that each backup of the list has the whole log
pub record RecoveredTo (w : World) (l : Lists) : Type 0 where
  pub order : Recover
  pub ordered : WasSent w (says manager_node l.master (body.Recover order))
  pub its_version : order.version ≡ l.version
  pub told : WasSent w (says l.master manager_node (body.Recovered (record { part = l.part; epoch = l.epoch })))

-- lists that are told to be complete, or are of the opening
pub record IsReady (w : World) (l : Lists) : Type 0 where
  pub given : IsGiven w l
  pub told : (l.version ≡ 1) ⊎ (WasSent w (says l.master manager_node (body.Prepared l.version)) ⊎ RecoveredTo w l)

-- a backup has so many entries
abbrev pub HasMany : World → ℕ → NodeId → Type 0
HasMany w n node = (b : BackupState) → IsBackup w node b → n ≤ length b.log

-- each backup of each ready list of the master, from a version on, has so many
abbrev pub Reach : World → NodeId → ℕ → ℕ → Type 0
Reach w node version n = (l : Lists) → IsReady w l → l.master ≡ node → version ≤ l.version → Each (HasMany w n) l.backups

-- each backup of the list has all that its master has
abbrev pub Whole : World → Lists → Type 0
Whole w l = (its : Logged) → HasLog w l.master its → Each (HasMany w (length its.log)) l.backups

-- a backup of that name is there, and has so many entries
pub record HasStored (w : World) (n : ℕ) (node : NodeId) : Type 0 where
  pub b : BackupState
  pub is : IsBackup w node b
  pub low : n ≤ length b.log

-- a backup of that name is there
abbrev pub BackupIsThere : World → NodeId → Type 0
BackupIsThere w node = (b : BackupState) × IsBackup w node b

-- what an entry says of a request
abbrev pub Tells : ℕ → ℕ → List Entry → ℕ → RequestId → Answer → Entry → Type 0
Tells lo hi log index id a (Op r acknowledged) = (r.id ≡ id) × (answer_after lo hi (take index log) r.command ≡ a)
Tells lo hi log index id a (Give migration brought) = IsAmong (id, a) brought.table.records
Tells lo hi log index id a _ = ⊥

-- the request stands at an index with that answer, as an Op or brought by a Give
pub record StandsAt (lo hi : ℕ) (log : List Entry) (id : RequestId) (a : Answer) : Type 0 where
  pub index : ℕ
  pub entry : Entry
  pub stands : At log index entry
  pub tells : Tells lo hi log index id a entry

-- ---- what is said

-- a synced reply: its id stands with its answer in the log of its sender, on each backup of each ready list from that version on
pub record SyncedSaid (w : World) (from : NodeId) (r : Reply) : Type 0 where
  pub lists : Lists
  pub adopted : WasAdopted w lists
  pub its_master : lists.master ≡ from
  pub its_version : lists.version ≡ r.version
  pub l : Logged
  pub its_log : HasLog w from l
  pub stands : StandsAt (lo_of w lists.part) (hi_of w lists.part) l.log r.id r.answer
  pub reach : Reach w from r.version (stands.index + 1)

-- an unsynced reply: a free Op of its id with its answer stands in the log of its sender. No entry touches its hashes between what
-- was synced then, which each backup of that version's list has, and its index, and each backup of each later list that is ready
-- has it
pub record EarlySaid (w : World) (from : NodeId) (r : Reply) : Type 0 where
  pub lists : Lists
  pub adopted : WasAdopted w lists
  pub its_master : lists.master ≡ from
  pub its_version : lists.version ≡ r.version
  pub m : MasterState
  pub serves : IsMaster w from (Serving m)
  pub index : ℕ
  pub request : Request
  pub acknowledged : ℕ
  pub stands : At m.log index (Op request acknowledged)
  pub its_id : request.id ≡ r.id
  pub its_answer : answer_after (lo_of w lists.part) (hi_of w lists.part) (take index m.log) request.command ≡ r.answer
  pub free : has index m.free ≡ true
  pub synced : ℕ
  pub below : synced ≤ index
  pub apart : (k : ℕ) (e : Entry) → synced ≤ k → k < index → At m.log k e → Each (λ h. entry_touches e h ≡ false) (hashes request.command)
  pub stored : Each (HasMany w synced) lists.backups
  pub above : Reach w from (r.version + 1) (index + 1)

-- after so many entries of its master's log the id may be collected, and each backup of each ready list, from these lists on,
-- has so many
pub record GcSaid (w : World) (lists : Lists) (id : RequestId) : Type 0 where
  pub l : Logged
  pub its_log : HasLog w lists.master l
  pub count : ℕ
  pub low : count ≤ length l.log
  pub collectable : IsCollectable (check (meaning (lo_of w lists.part) (hi_of w lists.part) (take count l.log)).table id)
  pub reach : Reach w lists.master lists.version count

-- ---- reads that are answered at once

-- A read that was answered at once: with the value that its sender's log, as it was then, gives the key, which it owned. What was
-- synced then, each backup of each ready list from that version on has; behind it no entry touched the key
pub record QuickSaid (w : World) (place : ℕ) (from to : NodeId) (q : Quick) : Type 0 where
  pub lists : Lists
  pub adopted : WasAdopted w lists
  pub its_master : lists.master ≡ from
  pub its_epoch : lists.epoch ≡ q.epoch
  pub its_version : lists.version ≡ q.version
  pub addressee : to ≡ client_node q.id.client
  pub event : ℕ
  pub key : List ℕ
  pub invoked : At w.history event (Invoke q.id (Get key))
  pub m : MasterState
  pub serves : IsMaster w from (Serving m)
  pub captured : q.capture ≤ m.captured
  pub long : ℕ
  pub low : long ≤ length m.log
  pub then_long : ToldWithin w from place m.log long
  pub synced : ℕ
  pub below : synced ≤ long
  pub apart : (k : ℕ) (e : Entry) → synced ≤ k → k < long → At m.log k e → entry_touches e (hash_of key) ≡ false
  pub owned : is_owned (meaning (lo_of w lists.part) (hi_of w lists.part) (take long m.log)).owned (hash_of key) ≡ true
  pub its_answer : answer_after (lo_of w lists.part) (hi_of w lists.part) (take long m.log) (Get key) ≡ q.answer
  pub reach : Reach w from q.version synced
