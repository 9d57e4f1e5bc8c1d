-- Parcels: bytes behind their length (this project's own).
use Rattle.std.specs.Prelude.{◌≡◌, ℕ, ◌≤◌, List, ◌++◌, length, Option, Some, None}
use Rattle.std.specs.Int.{to_be_bytes, w32}
use Rattle.curp_batches.specs.Arrivals.{arrival}
use Rattle.curp_items.specs.Format.{Format}
use Rattle.curp_journal.specs.declared.arrived.Arrived.{Arrived}

-- how many bytes a parcel has behind its length: as many as the longest arrival that a journal takes, where eight of 2^32 - 1
-- bytes are a checksum
abbrev pub parcel_limit : ℕ
parcel_limit = 4294967287

abbrev pub behind_length : List ℕ → List ℕ
behind_length content = to_be_bytes w32 (length content) ++ content

-- the value has an encoding, which isn't too long, and the bytes are its parcel
pub record IsParcel {A : Type 0} (f : Format A) (x : A) (bytes : List ℕ) : Type 0 where
  pub fits : f.Fits x
  pub short : length (f.of x) ≤ parcel_limit
  pub is : bytes ≡ behind_length (f.of x)

-- the bytes are the value's encoding
pub record IsEncoding {A : Type 0} (f : Format A) (x : A) (bytes : List ℕ) : Type 0 where
  pub fits : f.Fits x
  pub is : bytes ≡ f.of x

-- the value whose encoding the bytes are, if they are one's
abbrev pub IsIn : {A : Type 0} → Format A → List ℕ → Option A → Type 0
IsIn {A} f bytes None = (x : A) → IsEncoding f x bytes → ⊥
IsIn f bytes (Some x) = IsEncoding f x bytes

-- what comes to a node in a parcel: any order, and any message that has a frame
abbrev pub incoming : Format Arrived
incoming = arrival
