-- Nothing is taken back: the growth relation.
use Rattle.std.specs.Prelude.{◌≡◌, ◌≤◌, ◌<◌, ◌⊎◌, true, ℕ, List, length, drop, Option, Some, None, ⊤}
use Rattle.curp_base.specs.Words.{Each, IsPrefix, numbered}
use Rattle.curp_cmd.specs.declared.command.RequestId.{RequestId}
use Rattle.curp_cmd.specs.declared.entry.Entry.{Entry}
use Rattle.curp_cmd.specs.declared.node.NodeId.{NodeId}
use Rattle.curp_msg.specs.declared.body.Body.{Body}
use Rattle.curp_msg.specs.declared.body.Body.TheVariants as body
use Rattle.curp_msg.specs.declared.body.Gc.{Gc}
use Rattle.curp_model.specs.declared.Mode.TheVariants.{Idle, Frozen}
use Rattle.curp_model.specs.Backup.{BackupState, fresh_backup}
use Rattle.curp_facts.specs.Facts.{IsAmong, IsOnlyExpire, Logged, WasSent, node_log}
use Rattle.curp_model.specs.Manager.{ManagerState, Next}
use Rattle.curp_model.specs.Master as phase
use Rattle.curp_model.specs.Master.{MasterState, Phase, Switch, has}
use Rattle.curp_cmd.specs.Node.{witness_node}
use Rattle.curp_msg.specs.Moved.{says}
use Rattle.curp_model.specs.Recovery.{MasterStage, Fresh, Recovering, Serving, RecoveryState}
use Rattle.curp_model.specs.Witness.{WitnessState, fresh_witness, holds}
use Rattle.curp_model.specs.World.{World, messages}

-- a log that is there stays, and grows at its end
abbrev pub LogGrows : Option Logged → Option Logged → Type 0
LogGrows None later = ⊤
LogGrows (Some l) later = (k : Logged) × (later ≡ Some k) × IsPrefix l.log k.log × (l.round ≤ k.round)

-- what of a serving master never falls
pub record Growing : Type 0 where
  pub part : ℕ
  pub epoch : ℕ
  pub version : ℕ
  pub lo : ℕ
  pub hi : ℕ
  pub log : List Entry
  pub round : ℕ
  pub captured : ℕ
  pub free : List ℕ
  pub phase : Phase

-- those fields of a master
abbrev pub core : MasterState → Growing
core m = record { part = m.part; epoch = m.epoch; version = m.version; lo = m.lo; hi = m.hi; log = m.log; round = m.round; captured = m.captured; free = m.free; phase = m.phase }

-- the lists that it takes up next have no lower version
abbrev pub Above : ℕ → Phase → Type 0
Above version phase.Open = ⊤
Above version (phase.Switching s) = version ≤ s.version

-- a serving master stays the same master. Its version isn't less where the lists that it takes up next are above.
pub record CoreGrows (c d : Growing) : Type 0 where
  pub part : d.part ≡ c.part
  pub epoch : d.epoch ≡ c.epoch
  pub lo : d.lo ≡ c.lo
  pub hi : d.hi ≡ c.hi
  pub log : IsPrefix c.log d.log
  pub round : c.round ≤ d.round
  pub captured : c.captured ≤ d.captured
  pub free : (i : ℕ) → has i c.free ≡ true → has i d.free ≡ true
  pub version : Above c.version c.phase → c.version ≤ d.version
  pub above : Above c.version c.phase → Above d.version d.phase

-- a serving master goes on
abbrev pub ServesOn : MasterState → MasterState → Type 0
ServesOn m k = CoreGrows (core m) (core k)

-- a recovered master serves by its order
pub record ServesByOrder (s : RecoveryState) (k : MasterState) : Type 0 where
  pub part : k.part ≡ s.order.part
  pub epoch : k.epoch ≡ s.order.epoch
  pub version : k.version ≡ s.order.version
  pub backups : k.backups ≡ s.order.backups
  pub witnesses : k.witnesses ≡ s.order.witnesses
  pub lo : k.lo ≡ s.order.lo
  pub hi : k.hi ≡ s.order.hi
  pub phase : k.phase ≡ phase.Open

-- a master gets its order once, is adopted once, and serves then for good
abbrev pub LifeGrows : MasterStage → MasterStage → Type 0
LifeGrows Fresh (Serving k) = ⊥
LifeGrows Fresh later = ⊤
LifeGrows (Recovering s) (Recovering t) = t.order ≡ s.order
LifeGrows (Recovering s) (Serving k) = ServesByOrder s k
LifeGrows (Serving m) (Serving k) = ServesOn m k
LifeGrows _ _ = ⊥

-- no reply, no value, no collection, and nothing of a migration
abbrev pub IsSilent : Body → Type 0
IsSilent (body.Update ask) = ⊤
IsSilent (body.Sync ask) = ⊤
IsSilent (body.Read ask) = ⊤
IsSilent (body.Glance ask) = ⊤
IsSilent (body.Record r) = ⊤
IsSilent (body.Probe p) = ⊤
IsSilent body.Fetch = ⊤
IsSilent (body.Configuration config) = ⊤
IsSilent (body.Reply r) = ⊥
IsSilent (body.Worth v) = ⊥
IsSilent (body.Quick q) = ⊥
IsSilent (body.Refuse r) = ⊤
IsSilent (body.Accepted a) = ⊤
IsSilent (body.Rejected r) = ⊤
IsSilent (body.Probed a) = ⊤
IsSilent (body.Append a) = ⊤
IsSilent (body.Appended a) = ⊤
IsSilent (body.Gc g) = ⊥
IsSilent (body.Collected c) = ⊤
IsSilent (body.Install epoch) = ⊤
IsSilent (body.Start s) = ⊤
IsSilent (body.Recover o) = ⊤
IsSilent (body.Fence epoch) = ⊤
IsSilent (body.FenceAnswer a) = ⊤
IsSilent (body.Freeze epoch) = ⊤
IsSilent (body.FrozenAnswer requests) = ⊤
IsSilent (body.Recovered r) = ⊤
IsSilent (body.Adopted a) = ⊤
IsSilent (body.Prepare p) = ⊤
IsSilent (body.Prepared version) = ⊤
IsSilent (body.TakeOut t) = ⊤
IsSilent (body.Taken t) = ⊥
IsSilent (body.GiveIn t) = ⊤
IsSilent (body.Given migration) = ⊥
IsSilent (body.ExpireClient client) = ⊤

-- while it switches, it pushes nothing but expiries
abbrev pub PushesLittle : MasterStage → MasterStage → Type 0
PushesLittle (Serving m) (Serving k) = (s : Switch) → m.phase ≡ phase.Switching s → Each IsOnlyExpire (drop (length m.log) k.log)
PushesLittle _ _ = ⊤

-- a master goes on, and keeps its log
pub record MasterGrows (m k : MasterStage) : Type 0 where
  pub life : LifeGrows m k
  pub log : LogGrows (node_log m) (node_log k)
  pub little : PushesLittle m k

-- a backup that isn't installed keeps its log, and so does one that is fenced above its epoch; none is installed below its fence
pub record BackupGrows (b c : BackupState) : Type 0 where
  pub log : IsPrefix b.log c.log
  pub fence : b.fence ≤ c.fence
  pub installed : (e : ℕ) → b.installed ≡ Some e → c.installed ≡ Some e
  pub fenced : (e : ℕ) → b.installed ≡ Some e → e < b.fence → c.log ≡ b.log
  pub absent : b.installed ≡ None → c.log ≡ b.log
  pub never : b.installed ≡ None → (e : ℕ) → c.installed ≡ Some e → b.fence ≤ e

-- one that was never started, nor frozen, has no epoch
abbrev pub IdleIsFresh : WitnessState → Type 0
IdleIsFresh x = x.mode ≡ Idle → x.epoch ≡ None

-- a collection that lists the id was sent to the witness, at its epoch
pub record Dropped (v : World) (n : ℕ) (x : WitnessState) (id : RequestId) : Type 0 where
  pub from : NodeId
  pub gc : Gc
  pub sent : WasSent v (says from (witness_node n) (body.Gc gc))
  pub its_epoch : x.epoch ≡ Some gc.epoch
  pub listed : IsAmong id gc.ids

-- its epoch stays, where one that was never started has none; a frozen one stays; what is held stays, or may be dropped
pub record WitnessGrows (May : RequestId → Type 0) (x y : WitnessState) : Type 0 where
  pub epoch : IdleIsFresh x → (e : ℕ) → x.epoch ≡ Some e → y.epoch ≡ Some e
  pub idle : IdleIsFresh x → IdleIsFresh y
  pub frozen : x.mode ≡ Frozen → y ≡ x
  pub held : (id : RequestId) → holds x id ≡ true → (holds y id ≡ true) ⊎ May id

-- the next numbers never fall
pub record NextGrows (n k : Next) : Type 0 where
  pub epoch : n.epoch ≤ k.epoch
  pub version : n.version ≤ k.version
  pub master : n.master ≤ k.master
  pub backup : n.backup ≤ k.backup
  pub witness : n.witness ≤ k.witness
  pub migration : n.migration ≤ k.migration

-- the manager keeps its shape, and who is gone stays so
pub record ManagerGrows (g k : ManagerState) : Type 0 where
  pub shape : k.shape ≡ g.shape
  pub next : NextGrows g.next k.next
  pub gone : (client : ℕ) → has client g.gone ≡ true → has client k.gone ≡ true

-- what stands at a number stands there later, grown
abbrev pub AllGrow : {S : Type 0} → (ℕ → S → S → Type 0) → List S → List S → Type 0
AllGrow {S} G xs ys = (n : ℕ) (x : S) → numbered xs n ≡ Some x → (y : S) × (numbered ys n ≡ Some y) × G n x y

-- what stands at a number that had nothing is fresh
abbrev pub AllNew : {S : Type 0} → S → List S → List S → Type 0
AllNew {S} fresh xs ys = (n : ℕ) (y : S) → numbered xs n ≡ None → numbered ys n ≡ Some y → y ≡ fresh

-- nodes that are new are fresh
abbrev pub NewFresh : World → World → Type 0
NewFresh w v = AllNew Fresh w.masters v.masters × AllNew fresh_backup w.backups v.backups × AllNew (fresh_witness w.sets w.ways) w.witnesses v.witnesses

-- nothing is taken back
pub record Grows (w v : World) : Type 0 where
  pub manager : ManagerGrows w.manager v.manager
  pub sent : IsPrefix (messages w) (messages v)
  pub history : IsPrefix w.history v.history
  pub masters : AllGrow (λ n. MasterGrows) w.masters v.masters
  pub backups : AllGrow (λ n. BackupGrows) w.backups v.backups
  pub witnesses : AllGrow (λ n x. WitnessGrows (Dropped v n x) x) w.witnesses v.witnesses
  pub fresh : NewFresh w v

-- what makes the growth of epochs and versions plain: it holds of every world that scripts reach
pub record Steady (w : World) : Type 0 where
  pub idle : (n : ℕ) (x : WitnessState) → numbered w.witnesses n ≡ Some x → IdleIsFresh x
  pub above : (n : ℕ) (m : MasterState) → numbered w.masters n ≡ Some (Serving m) → Above m.version m.phase
