-- Ranges of hashes whose ends are in order.
use Rattle.std.specs.Prelude.{ℕ, ◌≤◌, Option, Some, None}
use native.Mathlib.Decide.{dec_le}
use Rattle.curp_items.specs.declared.bounds.Bounds.{Bounds}

-- the range of these ends, where they are in order
abbrev pub bounds_if : (lo hi : ℕ) → Dec (lo ≤ hi) → Option Bounds
bounds_if lo hi (yes ordered) = Some (record { lo = lo; hi = hi; ordered = ordered })
bounds_if lo hi (no unordered) = None

abbrev pub bounds_of : ℕ → ℕ → Option Bounds
bounds_of lo hi = bounds_if lo hi (dec_le lo hi)
