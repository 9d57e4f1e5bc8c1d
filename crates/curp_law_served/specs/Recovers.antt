-- What is on its way while a partition is recovered: some message that will bring the fresh master on was sent and
-- isn't delivered, until it is adopted and serves.
use Rattle.std.specs.Prelude.{◌≡◌, ◌⊎◌, ℕ, true, false, List, length, Option, Some, None, ⊤}
use Rattle.curp_base.specs.Words.{Each}
use Rattle.curp_cmd.specs.Node.{is_among, manager_node, master_node}
use Rattle.curp_cmd.specs.declared.command.Request.{Request}
use Rattle.curp_cmd.specs.declared.entry.Entry.{Entry}
use Rattle.curp_cmd.specs.declared.node.NodeId.{NodeId}
use Rattle.curp_msg.specs.declared.answer.FenceReply.{FenceReply}
use Rattle.curp_msg.specs.declared.answer.FenceReply.TheVariants as fence
use Rattle.curp_msg.specs.declared.body.Body.TheVariants as body
use Rattle.curp_msg.specs.declared.body.Recover.{Recover}
use Rattle.curp_msg.specs.declared.message.Message.{Message}
use Rattle.curp_model.specs.Log.{is_log}
use Rattle.curp_model.specs.Recovery.{Asking, RecoveryPhase, Replayed, Storing, Waiting, all_complete}
use Rattle.curp_law_served.specs.Ways.{Appends, Kind, OnWay, Stores}

-- the order to recover
abbrev pub OrdersRecovery : ℕ → Recover → Kind
OrdersRecovery q o from to (body.Recover r) = (to ≡ master_node q) × (r ≡ o)
OrdersRecovery q o from to _ = ⊥

-- the named backup is asked for its log
abbrev pub Fences : ℕ → Recover → Kind
Fences q o from to (body.Fence epoch) = (from ≡ master_node q) × (to ≡ o.backup) × (epoch ≡ o.epoch)
Fences q o from to _ = ⊥

-- a log, one that a master of the partition could have
abbrev pub IsGivenLog : Recover → FenceReply → Type 0
IsGivenLog o (fence.Log entries) = is_log o.lo o.hi entries ≡ true
IsGivenLog o _ = ⊥

-- its answer
abbrev pub GivesLog : ℕ → Recover → Kind
GivesLog q o from to (body.FenceAnswer a) = (from ≡ o.backup) × (to ≡ master_node q) × IsGivenLog o a.answer
GivesLog q o from to _ = ⊥

-- the named witness is asked for what it holds
abbrev pub AsksToFreeze : ℕ → Recover → Kind
AsksToFreeze q o from to (body.Freeze epoch) = (from ≡ master_node q) × (to ≡ o.witness)
AsksToFreeze q o from to _ = ⊥

-- its answer
abbrev pub GivesRequests : ℕ → Recover → Kind
GivesRequests q o from to (body.FrozenAnswer requests) = (from ≡ o.witness) × (to ≡ master_node q)
GivesRequests q o from to _ = ⊥

-- the manager is told that all is stored
abbrev pub TellsRecovered : Recover → Kind
TellsRecovered o from to (body.Recovered r) = (to ≡ manager_node) × (r.part ≡ o.part) × (r.epoch ≡ o.epoch)
TellsRecovered o from to _ = ⊥

-- what isn't there is on its way
abbrev pub ComesLog : (Message → Type 0) → ℕ → Recover → Option (List Entry) → Type 0
ComesLog D q o None = OnWay D (Fences q o) ⊎ OnWay D (GivesLog q o)
ComesLog D q o (Some log) = ⊤

abbrev pub ComesRequests : (Message → Type 0) → ℕ → Recover → Option (List Request) → Type 0
ComesRequests D q o None = OnWay D (AsksToFreeze q o) ⊎ OnWay D (GivesRequests q o)
ComesRequests D q o (Some requests) = ⊤

-- not both are there
abbrev pub NotBoth : Option (List Entry) → Option (List Request) → Type 0
NotBoth (Some log) (Some requests) = ⊥
NotBoth _ _ = ⊤

-- a fresh backup has the whole log, or will tell so
abbrev pub CompletesBackup : (Message → Type 0) → ℕ → Recover → Replayed → NodeId → Type 0
CompletesBackup D q o r b =
    (is_among b r.complete ≡ true) ⊎ (OnWay D (Appends o.epoch b (length r.log) 0) ⊎ OnWay D (Stores q b (length r.log) 0))

-- by the phase
abbrev pub PhaseGoes : (Message → Type 0) → ℕ → Recover → RecoveryPhase → Type 0
PhaseGoes D q o (Asking log requests) = ComesLog D q o log × ComesRequests D q o requests × NotBoth log requests
PhaseGoes D q o (Storing r) = (all_complete o r ≡ false) × Each (CompletesBackup D q o r) o.backups
PhaseGoes D q o (Waiting r) = OnWay D (TellsRecovered o)
