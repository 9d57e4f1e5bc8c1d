-- A buffer of bytes that were read ahead.
use Rattle.std.specs.Prelude.{◌≡◌, ℕ, List, ◌++◌, length}
use Rattle.curp_parcels.specs.declared.buffer.Filled.{Filled}
use Rattle.curp_parcels.specs.declared.buffer.Filled.TheVariants as filled

-- so many bytes were read behind those ahead; a refusal leaves these
pub record AddsBytes (old new : List ℕ) (count : ℕ) : Type 0 where
  pub more : List ℕ
  pub is : new ≡ old ++ more
  pub many : length more ≡ count

abbrev pub Adds : List ℕ → List ℕ → Filled → Type 0
Adds old new (filled.Bytes count) = AddsBytes old new count
Adds old new filled.Failed = new ≡ old
Adds old new filled.NoMemory = new ≡ old
