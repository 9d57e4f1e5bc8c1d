-- What a witness holds, and what it has room for, as its answers speak of it.
use Rattle.std.specs.Prelude.{◌≡◌, ◌≢◌, ◌≤◌, ◌<◌, ℕ, ◌+◌, true, false, map, Some, None}
use Rattle.std.specs.declared.cmp.Ordering.TheVariants.{Greater}
use Rattle.curp_base.specs.Words.{At}
use Rattle.curp_cmd.specs.Hash.{conflicts, hashes}
use Rattle.curp_cmd.specs.RequestId.{id_cmp}
use Rattle.curp_cmd.specs.declared.command.Request.{Request}
use Rattle.curp_cmd.specs.declared.command.RequestId.{RequestId}
use Rattle.curp_msg.specs.declared.answer.Reason.{Reason}
use Rattle.curp_model.specs.declared.Mode.TheVariants.{Idle, Normal}
use Rattle.curp_model.specs.Witness.{WitnessState, hold, in_set, used, HeldRequest}

-- ---- its epoch

-- the witness was started with another epoch, which is this one
pub record IsStranger (w : WitnessState) (epoch own : ℕ) : Type 0 where
  pub started : w.mode ≢ Idle
  pub its_epoch : w.epoch ≡ Some own
  pub another : own ≢ epoch

-- the witness was started with no other epoch
abbrev pub IsOfEpoch : WitnessState → ℕ → Type 0
IsOfEpoch w epoch = (own : ℕ) → w.epoch ≡ Some own → own ≡ epoch

-- it looks at the request: it is Normal at that epoch
pub record IsOpen (w : WitnessState) (epoch : ℕ) : Type 0 where
  pub mode : w.mode ≡ Normal
  pub of_epoch : IsOfEpoch w epoch

-- ---- its answer

-- the witness rejects a record of that epoch, for that reason
abbrev pub RejectsWith : WitnessState → ℕ → Request → Reason → Type 0
RejectsWith w epoch r why = (hold w epoch r).reason ≡ Some why

-- it accepts the record
abbrev pub AcceptsRecord : WitnessState → ℕ → Request → Type 0
AcceptsRecord w epoch r = (hold w epoch r).reason ≡ None

-- the record leaves the witness as it was
abbrev pub ChangesNothing : WitnessState → ℕ → Request → Type 0
ChangesNothing w epoch r = (hold w epoch r).state ≡ w

-- ---- what is held

-- a request with that id is held
pub record HoldsId (w : WitnessState) (id : RequestId) : Type 0 where
  pub place : ℕ
  pub held : HeldRequest
  pub stands : At w.held place held
  pub its_id : held.request.id ≡ id

-- it looks at the request, and doesn't hold its id
pub record IsNewTo (w : WitnessState) (epoch : ℕ) (r : Request) : Type 0 where
  pub looks : IsOpen w epoch
  pub not_held : ¬ (HoldsId w r.id)

-- a request with that id is held, and conflicts with this one
pub record IsConflict (w : WitnessState) (r : Request) (id : RequestId) : Type 0 where
  pub place : ℕ
  pub held : HeldRequest
  pub stands : At w.held place held
  pub its_id : held.request.id ≡ id
  pub conflicting : conflicts held.request.command r.command ≡ true

-- no held request conflicts with this one
abbrev pub HasNoConflict : WitnessState → Request → Type 0
HasNoConflict w r = (id : RequestId) → ¬ (IsConflict w r id)

-- the least id of those that are held and conflict
pub record IsLeastConflict (w : WitnessState) (r : Request) (id : RequestId) : Type 0 where
  pub one : IsConflict w r id
  pub least : (other : RequestId) → IsConflict w r other → id_cmp id other ≢ Greater

-- ---- room

-- the slots of set s that are taken, with those that the request needs there, are no more than there are
abbrev pub FitsSet : WitnessState → Request → ℕ → Type 0
FitsSet w r s = used w s + in_set w.sets s (hashes r.command) ≤ w.ways

-- every set has room for the request
abbrev pub HasRoomForRequest : WitnessState → Request → Type 0
HasRoomForRequest w r = (s : ℕ) → s < w.sets → FitsSet w r s

-- the least set that has no room for the request
pub record IsLeastFull (w : WitnessState) (r : Request) (s : ℕ) : Type 0 where
  pub set : s < w.sets
  pub full : ¬ (FitsSet w r s)
  pub least : (t : ℕ) → t < s → FitsSet w r t

-- ---- what a conflict changes

-- without its mark
abbrev pub unmarked : HeldRequest → HeldRequest
unmarked x = record x { suspected = false }

-- the one is the other but for the marks of what is held
abbrev pub IsAlikeButMarks : WitnessState → WitnessState → Type 0
IsAlikeButMarks before after =
    record after { held = map unmarked after.held } ≡ record before { held = map unmarked before.held }
