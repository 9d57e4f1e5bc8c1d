-- A journal on a disk that stops at an armed call.
use Rattle.std.specs.Prelude.{◌≡◌, ℕ, ◌≤◌, ◌==◌, ◌&&◌, Bool, List, ◌++◌, Some, if◌then◌else◌}
use Rattle.curp_disk.specs.Calls.{LeftNow, seen_of}
use Rattle.curp_disk.specs.InMemory.{StopParts, StopRan}
use Rattle.curp_disk.specs.declared.disk.Did.{Did}
use Rattle.curp_disk.specs.declared.disk.Did.TheVariants as did
use Rattle.curp_disk.specs.declared.medium.Call.TheVariants as call
use Rattle.curp_journal.specs.declared.arrived.Arrived.{Arrived}
use Rattle.curp_durable.specs.Journal.{HasEncoding}
use Rattle.curp_durable.specs.Running.{MadeUntil, calls_for, commit_behind}

-- the meanings of such a disk
abbrev pub stop_seen : StopParts → List ℕ
stop_seen d = seen_of d.played

abbrev pub StopLeaves : StopParts → List ℕ → Type 0
StopLeaves d = LeftNow d.played

abbrev pub StopWrote : StopParts → ℕ → List ℕ → Did → StopParts → Type 0
StopWrote old at bytes result new = StopRan old (call.Write at bytes) result new

abbrev pub StopSynced : StopParts → Did → StopParts → Type 0
StopSynced old result new = StopRan old call.Sync result new

-- The disk was to stop at one of the four calls that keep what is taken of a batch, and did so
pub record IsStopped (old new : StopParts) (commit k : ℕ) (b : List Arrived) : Type 0 where
  pub armed : old.armed ≡ Some k
  pub first : 1 ≤ k
  pub last : k ≤ 4
  pub encodes : HasEncoding b
  pub ran : MadeUntil StopWrote StopSynced did.Failed (calls_for commit b) old new

-- it was the last of the four, and what wasn't synced outlives the crash
abbrev pub outlives : (k : ℕ) → (unsynced : Bool) → Bool
outlives k unsynced = (k == 4) && unsynced

-- the inputs that are kept, and where the last commit byte then stands
abbrev pub kept_inputs : (inputs b : List Arrived) → (k : ℕ) → (unsynced : Bool) → List Arrived
kept_inputs inputs b k unsynced = if outlives k unsynced then inputs ++ b else inputs

abbrev pub kept_commit : (commit : ℕ) → (b : List Arrived) → (k : ℕ) → (unsynced : Bool) → ℕ
kept_commit commit b k unsynced = if outlives k unsynced then commit_behind commit b else commit
