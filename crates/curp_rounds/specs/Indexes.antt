-- Indexes in ascending order.
use Rattle.std.specs.Prelude.{ℕ, ◌<◌, ◌≤◌, List, length, slice_index}

-- ascending numbers, and how many more there is room for
pub record IndexList : Type 0 where
  pub numbers : List ℕ
  pub spare : ℕ

-- those in front of the place are below the number, and those from there on above it
pub record IsBetween (numbers : List ℕ) (number at : ℕ) : Type 0 where
  pub within : at ≤ length numbers
  pub below : (k : ℕ) → k < at → slice_index numbers k < number
  pub above : (k : ℕ) → at ≤ k → k < length numbers → number < slice_index numbers k
