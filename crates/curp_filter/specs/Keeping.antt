-- What a process does to the journal of its node.
use Rattle.std.specs.Prelude.{◌≡◌, ℕ, Bool, true, false, List, ◌++◌}
use Rattle.curp_base.specs.Words.{IsPrefix}
use Rattle.curp_disk.specs.Disk.{LeavesOnly}
use Rattle.curp_durable.specs.Journal.{HoldsJournal, IsSettled}
use Rattle.curp_durable.specs.Value.{DurableParts}
use Rattle.curp_journal.specs.declared.arrived.Arrived.{Arrived}
use Rattle.curp_msg.specs.Moved.{Moved}
use Rattle.curp_msg.specs.Input.{Input}

-- a kind of disk, in the words of its clauses
pub record DiskKind (D : Type 0) : Type 1 where
  pub tells : Bool
  pub seen : D → List ℕ
  pub may_leave : D → List ℕ → Type 0
  pub moment : D → ℕ
  pub left_since : D → ℕ → List ℕ → Type 0
  pub faults : D → ℕ

abbrev pub kind : {D : Type 0} → Bool → (D → List ℕ) → (D → List ℕ → Type 0) → (D → ℕ) → (D → ℕ → List ℕ → Type 0) → (D → ℕ) → DiskKind D
kind tells seen may_leave moment left_since faults =
    record { tells = tells; seen = seen; may_leave = may_leave; moment = moment; left_since = left_since; faults = faults }

-- the journal of some inputs, and of those first of some more that were kept
pub record HoldsUpTo (title : List ℕ) (inputs more : List Arrived) (content : List ℕ) : Type 0 where
  pub kept : List Arrived
  pub first : IsPrefix kept more
  pub holds : HoldsJournal content title (inputs ++ kept)

-- the disk has the node's journal, all of it kept
abbrev pub Stands : {N D : Type 0} → (N → Input → Moved N) → DiskKind D → DurableParts N D → (title : List ℕ) → (opening : N) → List Arrived → Type 0
Stands machine disk node title opening inputs =
    IsSettled machine disk.seen disk.may_leave node.disk node.stand node.commit title opening inputs

-- these are in the journal behind those that were there
abbrev pub Keeps : {N D : Type 0} → (N → Input → Moved N) → DiskKind D → List Arrived → (old new : DurableParts N D) → Type 0
Keeps {N} machine disk more old new =
    (title : List ℕ) (opening : N) (inputs : List Arrived) → disk.tells ≡ true → Stands machine disk old title opening inputs
    → Stands machine disk new title opening (inputs ++ more)

-- a crash at any moment since leaves a journal that has all that was there, and the first of these
abbrev pub Outlasts : {N D : Type 0} → (N → Input → Moved N) → DiskKind D → List Arrived → (old new : DurableParts N D) → Type 0
Outlasts {N} machine disk more old new =
    (title : List ℕ) (opening : N) (inputs : List Arrived) → disk.tells ≡ true → old.spent ≡ false
    → Stands machine disk old title opening inputs
    → LeavesOnly disk.moment disk.left_since old.disk new.disk (HoldsUpTo title inputs more)
