-- How bytes are read from their start on.
use Rattle.std.specs.Prelude.{◌≡◌, ◌≢◌, ℕ, ◌+◌, ◌<◌, ◌^◌, List, ◌∷◌, ◌++◌, length, drop, Option, Some, None, ⊤}
use Rattle.std.specs.Int.{to_be_bytes, w32}
use Rattle.curp_base.specs.Words.{Each, all_of}
use Rattle.curp_base.specs.declared.failed.Failed.{Failed}
use Rattle.curp_base.specs.declared.failed.Failed.TheVariants as failed
use Rattle.curp_journal.specs.declared.arrived.Arrived.{Arrived}
use Rattle.curp_msg.specs.Moved.{Moved}
use Rattle.curp_msg.specs.Input.{Input}
use Rattle.curp_durable.specs.Journal.{Batch, HasEncoding, IsDamaged, IsNotFormatted, ReadsJournal, framed, records}
use Rattle.curp_durable.specs.Standing.{Standing, after, begun}
use Rattle.curp_durable.specs.Value.{CheckpointParts}
use Rattle.curp_durable.specs.declared.error.OpenError.{OpenError}
use Rattle.curp_durable.specs.declared.error.OpenError.TheVariants as opened
use Rattle.curp_durable.specs.declared.opening.FoundBatch.{FoundBatch}
use Rattle.curp_durable.specs.declared.opening.AtCommit.{AtCommit}
use Rattle.curp_durable.specs.declared.opening.AtCommit.TheVariants as next

-- ---- one record

-- an open commit byte with a record behind it, and some next commit byte
pub record FindsRecord (bytes : List ℕ) (b : Batch) (step : ℕ) : Type 0 where
  pub byte : ℕ
  pub rest : List ℕ
  pub is : bytes ≡ 1 ∷ (framed b ++ byte ∷ rest)
  pub encodes : HasEncoding b
  pub far : step ≡ length (framed b) + 1

-- an open commit byte with no such record
pub record FindsNone (bytes : List ℕ) : Type 0 where
  pub rest : List ℕ
  pub is : bytes ≡ 1 ∷ rest
  pub none : (b : Batch) (byte : ℕ) (tail : List ℕ) → HasEncoding b → rest ≢ framed b ++ byte ∷ tail

-- a commit byte that isn't open
pub record FindsShut (bytes : List ℕ) : Type 0 where
  pub byte : ℕ
  pub rest : List ℕ
  pub is : bytes ≡ byte ∷ rest
  pub shut : byte ≢ 1

-- an open commit byte, and so many bytes behind it and their length, and more
pub record FindsPiece (bytes : List ℕ) (len : ℕ) : Type 0 where
  pub rest : List ℕ
  pub is : bytes ≡ 1 ∷ (to_be_bytes w32 len ++ rest)
  pub within : len < length rest
  pub small : len < 2 ^ 32

-- what stands at the start of bytes
abbrev pub FindsNext : List ℕ → AtCommit → Type 0
FindsNext bytes next.Shut = FindsShut bytes
FindsNext bytes (next.Piece len) = FindsPiece bytes len
FindsNext bytes next.Cut = FindsNone bytes

-- the batch that stands at a commit byte, and where the next commit byte stands
abbrev pub FindsBatch : List ℕ → ℕ → Option FoundBatch → Type 0
FindsBatch content commit None = FindsShut (drop commit content)
FindsBatch content commit (Some found) = (step : ℕ) × FindsRecord (drop commit content) found.batch.items step × (found.behind ≡ commit + step)

-- an open commit byte with no record that can stand there
abbrev pub FindsNot : List ℕ → ℕ → Failed OpenError → Type 0
FindsNot content commit (failed.Because opened.NotFormatted) = ⊥
FindsNot content commit (failed.Because (opened.Damaged place)) = FindsNone (drop commit content) × (place ≡ commit)
FindsNot content commit (failed.Because opened.DiskFault) = ⊥
FindsNot content commit failed.NoMemory = ⊤

-- the same cause, at another place
abbrev pub error_at : ℕ → Failed OpenError → Failed OpenError
error_at place (failed.Because opened.NotFormatted) = failed.Because opened.NotFormatted
error_at place (failed.Because (opened.Damaged other)) = failed.Because (opened.Damaged place)
error_at place (failed.Because opened.DiskFault) = failed.Because opened.DiskFault
error_at place failed.NoMemory = failed.NoMemory

-- ---- all records

-- A journal of these batches up to a commit byte of any byte
pub record Walked (content title : List ℕ) (commit : ℕ) (batches : List Batch) : Type 0 where
  pub byte : ℕ
  pub rest : List ℕ
  pub is : content ≡ (title ++ records batches) ++ byte ∷ rest
  pub place : length (title ++ records batches) ≡ commit
  pub encoded : Each HasEncoding batches

-- such a journal, and where its batches led the node
pub record WalkedBy {N : Type 0} (machine : N → Input → Moved N) (content title : List ℕ) (opening : N) (commit : ℕ) (stand : Standing N) : Type 0 where
  pub batches : List Batch
  pub walked : Walked content title commit batches
  pub stand_is : stand ≡ after machine (begun opening) (all_of batches)

-- the same, where these are the bytes from a place on, and the commit byte is so many bytes behind it
pub record WalkedFrom {N : Type 0} (machine : N → Input → Moved N) (bytes : List ℕ) (base at : ℕ) (stand : Standing N) (content title : List ℕ) (opening : N) : Type 0 where
  pub rest : bytes ≡ drop base content
  pub by : WalkedBy machine content title opening (base + at) stand

-- the bytes up to a checkpoint's place led its node from an opening to where it stood
abbrev pub LedTo : {N : Type 0} → (N → Input → Moved N) → (content title : List ℕ) → (opening : N) → CheckpointParts N → Type 0
LedTo machine content title opening checkpoint = WalkedBy machine content title opening checkpoint.commit checkpoint.stand

-- they did so from some opening, behind some title
abbrev pub HasLedTo : {N : Type 0} → (N → Input → Moved N) → List ℕ → CheckpointParts N → Type 0
HasLedTo {N} machine content checkpoint = (title : List ℕ) × (opening : N) × LedTo machine content title opening checkpoint

-- such a journal, and its inputs
pub record WalkedOver (content title : List ℕ) (commit : ℕ) (inputs : List Arrived) : Type 0 where
  pub batches : List Batch
  pub walked : Walked content title commit batches
  pub all : all_of batches ≡ inputs

-- the journal of these batches, and where they led the node
pub record IsOpened {N : Type 0} (machine : N → Input → Moved N) (content title : List ℕ) (opening : N) (commit : ℕ) (stand : Standing N) : Type 0 where
  pub batches : List Batch
  pub reads : ReadsJournal content title batches commit
  pub stand_is : stand ≡ after machine (begun opening) (all_of batches)

-- why there is no journal to open
abbrev pub OpensNot : List ℕ → List ℕ → Failed OpenError → Type 0
OpensNot content title (failed.Because opened.NotFormatted) = IsNotFormatted content title
OpensNot content title (failed.Because (opened.Damaged place)) = IsDamaged content title place
OpensNot content title (failed.Because opened.DiskFault) = ⊤
OpensNot content title failed.NoMemory = ⊤

-- a title stands at the start, and a commit byte behind it
pub record StartsJournal (content title : List ℕ) : Type 0 where
  pub byte : ℕ
  pub rest : List ℕ
  pub is : content ≡ title ++ byte ∷ rest

-- ---- what an opening tells

-- none of the causes why there is no journal holds
abbrev pub Exists : List ℕ → List ℕ → Type 0
Exists content title = (IsNotFormatted content title → ⊥) × ((place : ℕ) → IsDamaged content title place → ⊥)

-- where the cause is one of these, no other holds
abbrev pub IsOnlyCause : List ℕ → List ℕ → Failed OpenError → Type 0
IsOnlyCause content title (failed.Because opened.NotFormatted) = (place : ℕ) → IsDamaged content title place → ⊥
IsOnlyCause content title (failed.Because (opened.Damaged place)) = (IsNotFormatted content title → ⊥) × ((other : ℕ) → IsDamaged content title other → other ≡ place)
IsOnlyCause content title (failed.Because opened.DiskFault) = ⊤
IsOnlyCause content title failed.NoMemory = ⊤

-- neither of the causes that say something of the disk's bytes
abbrev pub IsOfTheMoment : Failed OpenError → Type 0
IsOfTheMoment (failed.Because opened.NotFormatted) = ⊥
IsOfTheMoment (failed.Because (opened.Damaged place)) = ⊥
IsOfTheMoment (failed.Because opened.DiskFault) = ⊤
IsOfTheMoment failed.NoMemory = ⊤
