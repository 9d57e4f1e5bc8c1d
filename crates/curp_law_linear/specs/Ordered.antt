-- What a world keeps of the order: the facts of the small machine, of the adopted logs, and of reads.
use Rattle.std.specs.Prelude.{◌≡◌, ◌≤◌, ◌<◌, ◌⊎◌, ℕ, true, List, length, Option, Some, None, suc}
use Rattle.curp_base.specs.Words.{At, Each}
use Rattle.curp_cmd.specs.Node.{client_node, manager_node}
use Rattle.curp_cmd.specs.declared.command.Command.{Command}
use Rattle.curp_cmd.specs.declared.command.RequestId.{RequestId}
use Rattle.curp_cmd.specs.declared.entry.Entry.{Entry}
use Rattle.curp_cmd.specs.declared.entry.Entry.TheVariants.{Op, Take, Give, Expire}
use Rattle.curp_cmd.specs.declared.node.NodeId.{NodeId}
use Rattle.curp_msg.specs.Moved.{says}
use Rattle.curp_msg.specs.declared.body.Body.TheVariants as body
use Rattle.curp_msg.specs.declared.body.Probed.{Probed}
use Rattle.curp_msg.specs.declared.body.Quick.{Quick as QuickValue}
use Rattle.curp_msg.specs.declared.body.Recover.{Recover}
use Rattle.curp_msg.specs.declared.body.Worth.{Worth}
use Rattle.curp_msg.specs.declared.config.PartConfig.{PartConfig}
use Rattle.curp_msg.specs.declared.machine.Capture.{Capture}
use Rattle.curp_order.specs.declared.Event.TheVariants.{Invoke}
use Rattle.curp_model.specs.Log.{log_opening}
use Rattle.curp_model.specs.Marks.{Cut, Looked, Mark, Quick, is_capture}
use Rattle.curp_model.specs.Master.{Captured, MasterState}
use Rattle.curp_model.specs.Backup.{BackupState}
use Rattle.curp_model.specs.Named.{IsBackup, IsMaster, IsWitness}
use Rattle.curp_model.specs.Recovery.{Serving}
use Rattle.curp_model.specs.Witness.{WitnessState}
use Rattle.curp_model.specs.World.{World}
use Rattle.curp_model.specs.declared.Mode.TheVariants.{Frozen}
use Rattle.curp_facts.specs.Facts.{HasLog, IsAdoptedNow, IsAmong, Lists, Logged, WasAdopted, WasSent, hi_of, lo_of}
use Rattle.curp_facts.specs.Kept.{AdoptedLog, PassedBy, lists_of_master}
use Rattle.curp_facts.specs.Reach.{Reach}
use Rattle.curp_cmd.specs.Store.{NamesKey}
use Rattle.curp_law_linear.specs.Line.{CutEarly, LineOk, LookGives, QuickEarly, QuickGives, QuickLow, WasInvoked}
use Rattle.curp_law_linear.specs.OfWorld.{Reign, cut_length, cuts, line_of, log_of, reigns}
use Rattle.curp_law_kept.specs.GivesFit.{GivesFit}
use Rattle.curp_facts.specs.Migrated.{AllStored}

-- the number of the migration that an entry takes or gives
abbrev pub moved_number : Entry → Option ℕ
moved_number (Op r acknowledged) = None
moved_number (Take migration taken) = Some migration
moved_number (Give migration given) = Some migration
moved_number (Expire client) = None

-- takes and gives stand in the order of their numbers, each once
abbrev pub MigrationsRise : List Entry → Type 0
MigrationsRise log = (j k m n : ℕ) (d e : Entry) → j < k → At log j d → At log k e → moved_number d ≡ Some m → moved_number e ≡ Some n → m < n

-- an adopted log: its takes and gives rise together, and each give fits at its place
pub record AdoptedLogOk (w : World) (c : PartConfig) (l : AdoptedLog w c) : Type 0 where
  pub rise : MigrationsRise l.its.log
  pub fit : GivesFit (log_opening (lo_of w c.part) (hi_of w c.part)) 0 l.its.log

-- ---- reads

-- The mark of a look, or of a read that was answered at once, is that of a capture which its master has made, of its own
-- partition and epoch, and of no other mark of that master
pub record LooksNumbered (w : World) : Type 0 where
  pub made : (k number : ℕ) (m : Mark) → At w.marks k m → is_capture number m.place ≡ true
      → (x : MasterState) × IsMaster w m.master (Serving x) × (number ≤ x.captured) × (x.part ≡ m.part) × (x.epoch ≡ m.epoch)
  pub once : (j k number : ℕ) (m o : Mark) → At w.marks j m → At w.marks k o → is_capture number m.place ≡ true
      → is_capture number o.place ≡ true → m.master ≡ o.master → j ≡ k

-- a master's log has so many entries, and so has each backup of each ready list of it, from a version on
pub record IsStored (w : World) (node : NodeId) (version long : ℕ) : Type 0 where
  pub its : Logged
  pub its_log : HasLog w node its
  pub low : long ≤ length its.log
  pub reach : Reach w node version long

-- a value that was sent is what its look gives, and each backup of each ready list, from one that was adopted on, has as many
-- entries as the look saw
pub record WorthOk (w : World) (node : NodeId) (v : Worth) : Type 0 where
  pub lists : Lists
  pub adopted : WasAdopted w lists
  pub its_master : lists.master ≡ node
  pub its_epoch : lists.epoch ≡ v.epoch
  pub long : ℕ
  pub look : LookGives w.marks (record { master = node; epoch = v.epoch; number = v.capture }) lists.part long v.id v.answer
  pub stored : IsStored w node lists.version long

-- a capture that waits is that of a look, or it was passed by
abbrev pub CaptureOk : World → NodeId → MasterState → Captured → Type 0
CaptureOk w node m c =
    LookGives w.marks (record { master = node; epoch = m.epoch; number = c.number }) m.part c.length c.id c.answer
    ⊎ PassedBy w (lists_of_master node m) m c

-- a look that is completed, or of an epoch before the present one, saw no more than each backup of the present list has
abbrev pub LooksStored : World → Type 0
LooksStored w = (k number long : ℕ) (m : Mark) (c : PartConfig) → At w.marks k m → m.place ≡ Looked number long → IsAdoptedNow w c → c.part ≡ m.part
    → (m.completed ≡ true) ⊎ (m.epoch < c.epoch) → AllStored w c long

-- so many entries of a master are stored from lists of its partition on that were adopted
pub record StoredFrom (w : World) (node : NodeId) (part long : ℕ) : Type 0 where
  pub lists : Lists
  pub adopted : WasAdopted w lists
  pub its_master : lists.master ≡ node
  pub its_part : lists.part ≡ part
  pub stored : IsStored w node lists.version long

-- what is uncompleted before a quick mark, on its hashes and of its partition, is stored by some master
pub record IsLow (w : World) (number : ℕ) (m : Mark) : Type 0 where
  pub long : ℕ
  pub other : NodeId
  pub low : QuickLow w.marks (record { master = m.master; epoch = m.epoch; number = number }) m.part long m.id
  pub stored : StoredFrom w other m.part long

-- What a completed look saw is stored by its master, from some adopted lists on. What a look of an epoch before the present one
-- saw is stored by the present master, on each of its ready lists. What is uncompleted before a read that was answered at once,
-- on its hashes and of its partition, is stored
pub record LooksReached (w : World) : Type 0 where
  pub completed : (k number long : ℕ) (m : Mark) → At w.marks k m → m.place ≡ Looked number long → m.completed ≡ true → StoredFrom w m.master m.part long
  pub older : (k number long : ℕ) (m : Mark) (c : PartConfig) → At w.marks k m → m.place ≡ Looked number long → IsAdoptedNow w c → c.part ≡ m.part
      → m.epoch < c.epoch → IsStored w c.master 0 long
  pub quick : (k number : ℕ) (m : Mark) → At w.marks k m → m.place ≡ Quick number → IsLow w number m

-- ---- reads that are answered at once

-- the capture of a read that was answered at once
abbrev pub capture_of : NodeId → QuickValue → Capture
capture_of node q = record { master = node; epoch = q.epoch; number = q.capture }

-- A witness of the lists is frozen. Had it said Live of the read, the read was invoked before what is flagged behind its mark
-- completed
pub record Gated (w : World) (lists : Lists) (node : NodeId) (q : QuickValue) : Type 0 where
  pub witness : NodeId
  pub named : IsAmong witness lists.witnesses
  pub x : WitnessState
  pub is : IsWitness w witness x
  pub frozen : x.mode ≡ Frozen
  pub opens : WasSent w (says witness (client_node q.id.client)
      (body.Probed (record { id = q.id; epoch = q.epoch; live = true })))
      → QuickEarly (line_of w) (capture_of node q) lists.part q.id q.answer

-- A read that was answered at once: its mark is kept and gives its answer; and it was invoked before what is flagged behind the
-- mark completed, unless a witness stands in the way
pub record QuickOk (w : World) (node : NodeId) (q : QuickValue) : Type 0 where
  pub lists : Lists
  pub adopted : WasAdopted w lists
  pub its_master : lists.master ≡ node
  pub its_epoch : lists.epoch ≡ q.epoch
  pub its_version : lists.version ≡ q.version
  pub gives : QuickGives w.marks (capture_of node q) lists.part q.id q.answer
  pub time : QuickEarly (line_of w) (capture_of node q) lists.part q.id q.answer ⊎ Gated w lists node q

-- ---- adoptions

-- lists of the partition that were adopted have that master and that epoch
pub record ReignOk (w : World) (part : ℕ) (r : Reign) : Type 0 where
  pub lists : Lists
  pub adopted : WasAdopted w lists
  pub its_part : lists.part ≡ part
  pub its_epoch : lists.epoch ≡ r.epoch
  pub its_master : lists.master ≡ r.master

-- the master of the lists, from their epoch on
abbrev pub reign_in : Lists → Reign
reign_in l = record { epoch = l.epoch; master = l.master }

-- The marks of a partition's adoptions tell its masters: each was adopted, with a higher epoch than the one before, and no other
-- was. An adoption recovered a beginning of the log of the one before, which its own master has stored
pub record PartCuts (w : World) (part : ℕ) (cs : List Mark) : Type 0 where
  pub ranged : (i : ℕ) (m : Mark) → At cs i m → (1 ≤ part) × (part ≤ w.manager.shape.parts)
  pub adopted : (i : ℕ) (r : Reign) → 1 ≤ part → part ≤ w.manager.shape.parts → At (reigns part cs) i r → ReignOk w part r
  pub rise : (i j : ℕ) (r s : Reign) → i < j → At (reigns part cs) i r → At (reigns part cs) j s → r.epoch < s.epoch
  pub there : (l : Lists) → WasAdopted w l → l.part ≡ part → (i : ℕ) × At (reigns part cs) i (reign_in l)
  pub low : (i : ℕ) (r : Reign) (m : Mark) → At (reigns part cs) i r → At cs i m
      → cut_length m.place ≤ length (log_of w part r.master).log
  pub stored : (i : ℕ) (m : Mark) → At cs i m → StoredFrom w m.master part (cut_length m.place)
  -- each has the next number
  pub counted : (i : ℕ) (m : Mark) → At cs i m → m.place ≡ Cut (suc i) (cut_length m.place)
  -- what was recovered is the log of the backup that its order named
  pub recovered : (i : ℕ) (m : Mark) → At cs i m → (order : Recover)
      → WasSent w (says manager_node m.master (body.Recover order)) → (b : BackupState) → IsBackup w order.backup b
      → cut_length m.place ≡ length b.log

-- so it is with each partition
abbrev pub CutsFollow : World → Type 0
CutsFollow w = (part : ℕ) → PartCuts w part (cuts part w.marks)

-- What the witness that a recovery's order named has called live was invoked before what is flagged behind the adoption's mark
-- completed
abbrev pub CutsTimed : World → Type 0
CutsTimed w = (part i : ℕ) (m : Mark) → At (cuts part w.marks) i m → (order : Recover)
    → WasSent w (says manager_node m.master (body.Recover order))
    → (to : NodeId) (a : Probed) → WasSent w (says order.witness to (body.Probed a)) → a.live ≡ true
    → (c : Command) × WasInvoked w.history a.id c × CutEarly (line_of w) part (suc i) a.id c

-- ---- all together

pub record Ordered (w : World) : Type 0 where
  pub line : LineOk (line_of w)
  pub cuts_follow : CutsFollow w
  pub cuts_timed : CutsTimed w
  pub commands : (i : ℕ) (id : RequestId) (command : Command) → At w.history i (Invoke id command) → NamesKey command
  pub logs : (c : PartConfig) (l : AdoptedLog w c) → AdoptedLogOk w c l
  pub numbered_looks : LooksNumbered w
  pub worths : (node : NodeId) (v : Worth) → WasSent w (says node (client_node v.id.client) (body.Worth v)) → WorthOk w node v
  pub quicks : (node : NodeId) (q : QuickValue) → WasSent w (says node (client_node q.id.client) (body.Quick q))
      → QuickOk w node q
  pub captures : (node : NodeId) (m : MasterState) → IsMaster w node (Serving m) → Each (CaptureOk w node m) m.captures
  pub reached : LooksReached w
  pub stored : LooksStored w
