-- What the bytes of a disk stand for. A journal is bytes that split so: no definition reads them.
use Rattle.std.specs.Prelude.{◌≡◌, ◌≢◌, ◌⊎◌, ℕ, ◌<◌, ◌^◌, List, [], ◌∷◌, ◌++◌, length}
use Rattle.std.specs.Int.{to_be_bytes, w32}
use Rattle.curp_base.specs.Words.{Each, all_of}
use Rattle.curp_batches.specs.Arrivals.{arrival}
use Rattle.curp_batches.specs.Batches.{batch_of}
use Rattle.curp_disk.specs.Disk.{Only}
use Rattle.curp_journal.specs.declared.arrived.Arrived.{Arrived}
use Rattle.curp_msg.specs.Moved.{Moved}
use Rattle.curp_msg.specs.Input.{Input}
use Rattle.curp_durable.specs.Standing.{Standing, after, begun}

abbrev pub Batch : Type 0
Batch = List Arrived

-- the batch has an encoding, and a length for it
pub record HasEncoding (b : Batch) : Type 0 where
  pub fits : Each arrival.Fits b
  pub short : length (batch_of b) < 2 ^ 32

-- bytes behind their length
abbrev pub behind_length : List ℕ → List ℕ
behind_length bytes = to_be_bytes w32 (length bytes) ++ bytes

abbrev pub framed : Batch → List ℕ
framed b = behind_length (batch_of b)

-- records of these batches, each behind its open commit byte
abbrev pub records : List Batch → List ℕ
records [] = []
records (b ∷ bs) = 1 ∷ (framed b ++ records bs)

-- A journal of these batches: they stand behind the title, each behind its open commit byte, and behind them stands a commit byte that
-- isn't open, at this place. What stands behind that commit byte says nothing.
pub record ReadsJournal (content title : List ℕ) (batches : List Batch) (commit : ℕ) : Type 0 where
  pub byte : ℕ
  pub rest : List ℕ
  pub is : content ≡ (title ++ records batches) ++ byte ∷ rest
  pub place : length (title ++ records batches) ≡ commit
  pub shut : byte ≢ 1
  pub encoded : Each HasEncoding batches

-- A journal of these inputs, however they came in batches
pub record HoldsJournal (content title : List ℕ) (inputs : List Arrived) : Type 0 where
  pub batches : List Batch
  pub commit : ℕ
  pub all : all_of batches ≡ inputs
  pub reads : ReadsJournal content title batches commit

-- the same, whose last commit byte stands at this place
pub record HoldsUpTo (content title : List ℕ) (inputs : List Arrived) (commit : ℕ) : Type 0 where
  pub batches : List Batch
  pub all : all_of batches ≡ inputs
  pub reads : ReadsJournal content title batches commit

-- the journal from before some inputs, with all of them or with none
abbrev pub IsBeforeOrAfter : List ℕ → List Arrived → List Arrived → List ℕ → Type 0
IsBeforeOrAfter title inputs more content = HoldsJournal content title inputs ⊎ HoldsJournal content title (inputs ++ more)

-- no title is there, with a commit byte behind it
abbrev pub IsNotFormatted : List ℕ → List ℕ → Type 0
IsNotFormatted content title = (byte : ℕ) (rest : List ℕ) → content ≢ title ++ byte ∷ rest

-- An open commit byte at this place isn't followed by a record of a batch
pub record IsDamaged (content title : List ℕ) (place : ℕ) : Type 0 where
  pub batches : List Batch
  pub rest : List ℕ
  pub is : content ≡ (title ++ records batches) ++ 1 ∷ rest
  pub at : length (title ++ records batches) ≡ place
  pub encoded : Each HasEncoding batches
  pub stuck : (b : Batch) (byte : ℕ) (tail : List ℕ) → HasEncoding b → rest ≢ framed b ++ byte ∷ tail

-- The disk has the journal of these inputs, all of it kept; its last commit byte is here, and they led the node from its opening
-- to where it stands
pub record IsSettled {N D : Type 0} (machine : N → Input → Moved N) (seen : D → List ℕ) (may_leave : D → List ℕ → Type 0) (disk : D) (stand : Standing N) (commit : ℕ) (title : List ℕ) (opening : N) (inputs : List Arrived) : Type 0 where
  pub batches : List Batch
  pub all : all_of batches ≡ inputs
  pub reads : ReadsJournal (seen disk) title batches commit
  pub stand_is : stand ≡ after machine (begun opening) inputs
  pub durable : Only (seen disk) (may_leave disk)

-- the same for some title, opening and inputs
abbrev pub HasSettled : {N D : Type 0} → (N → Input → Moved N) → (D → List ℕ) → (D → List ℕ → Type 0) → D → Standing N → ℕ → Type 0
HasSettled {N} machine seen may_leave disk stand commit = (title : List ℕ) × (opening : N) × (inputs : List Arrived) × IsSettled machine seen may_leave disk stand commit title opening inputs
