-- A file of the system as a disk.
use Rattle.std.specs.Prelude.{◌≡◌, ℕ, ◌≤◌, Bool, true, false, List, ⊤}
use Rattle.curp_io.specs.Streams.{one_more}
use Rattle.curp_disk.specs.declared.disk.Did.{Did}
use Rattle.curp_disk.specs.declared.disk.Did.TheVariants as did
use Rattle.curp_disk.specs.declared.disk.Long.{Long}
use Rattle.curp_disk.specs.declared.disk.Long.TheVariants as long

-- whether a sync has failed, and how many calls failed
pub record FileParts : Type 0 where
  pub sync_failed : Bool
  pub faults : ℕ

-- none has, just after it was opened
abbrev pub fresh_file : FileParts
fresh_file = record { sync_failed = false; faults = 0 }

-- one call more failed
abbrev pub faulted : FileParts → FileParts
faulted d = record { sync_failed = d.sync_failed; faults = one_more d.faults }

-- what a read or a write did: only where it failed the count is another
abbrev pub FileRan : FileParts → Did → FileParts → Type 0
FileRan old (did.Done n) new = new ≡ old
FileRan old did.Failed new = new ≡ faulted old
FileRan old did.NoMemory new = ⊥

-- the same where it was asked for its length
abbrev pub FileAsked : FileParts → Long → FileParts → Type 0
FileAsked old (long.Bytes n) new = new ≡ old
FileAsked old long.Failed new = new ≡ faulted old

-- What a sync did: it is done only where none failed before, and where it fails it is told of all later ones
abbrev pub FileSynced : FileParts → Did → FileParts → Type 0
FileSynced old (did.Done n) new = (old.sync_failed ≡ false) × (new ≡ old)
FileSynced old did.Failed new = new ≡ record { sync_failed = true; faults = one_more old.faults }
FileSynced old did.NoMemory new = ⊥

-- ---- the laws of a disk that tells nothing: there is one moment, and a crash may leave anything

pub file_reads : (d : FileParts) → ⊤
file_reads d = tt

pub file_counts : (d : FileParts) (t : ℕ) (c : List ℕ) → t ≤ 0 → ⊤ → ⊤
file_counts d t c le left = tt

pub file_only : (d : FileParts) (c : List ℕ) → ⊤ → ⊤
file_only d c left = tt
