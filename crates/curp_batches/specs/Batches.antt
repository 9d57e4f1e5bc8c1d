-- Batches of what comes to a node, as bytes that end with a checksum (this project's own).
use Rattle.std.specs.Prelude.{◌≡◌, ℕ, List, ◌++◌, Option, Some, None}
use Rattle.std.specs.Int.{to_be_bytes, w64}
use Rattle.std.specs.List.{flat_map}
use Rattle.curp_base.specs.Words.{Each}
use Rattle.curp_cmd.specs.Hash.{hash_of}
use Rattle.curp_journal.specs.declared.arrived.Arrived.{Arrived}
use Rattle.curp_batches.specs.Arrivals.{arrival}

-- ---- arrivals one behind the other

abbrev pub arrivals_of : List Arrived → List ℕ
arrivals_of batch = flat_map arrival.of batch

-- all of these have an encoding, and the bytes are those
pub record AreArrivals (batch : List Arrived) (bytes : List ℕ) : Type 0 where
  pub fits : Each arrival.Fits batch
  pub is : bytes ≡ arrivals_of batch

-- the arrivals that the bytes are, if they are any
abbrev pub AreArrivalsIn : List ℕ → Option (List Arrived) → Type 0
AreArrivalsIn bytes None = (batch : List Arrived) → AreArrivals batch bytes → ⊥
AreArrivalsIn bytes (Some batch) = AreArrivals batch bytes

-- ---- with their checksum

-- the checksum of bytes: FNV-1a with 64 bits, big-endian
abbrev pub checksum_of : List ℕ → List ℕ
checksum_of bytes = to_be_bytes w64 (hash_of bytes)

-- the encoding of a batch
unfoldable pub batch_of : List Arrived → List ℕ
batch_of batch = arrivals_of batch ++ checksum_of (arrivals_of batch)

-- the batch has an encoding, and the bytes are that
pub record IsEncoding (batch : List Arrived) (bytes : List ℕ) : Type 0 where
  pub fits : Each arrival.Fits batch
  pub is : bytes ≡ batch_of batch

-- the batch whose encoding the bytes are, if they are one's
abbrev pub IsBatchIn : List ℕ → Option (List Arrived) → Type 0
IsBatchIn bytes None = (batch : List Arrived) → IsEncoding batch bytes → ⊥
IsBatchIn bytes (Some batch) = IsEncoding batch bytes
