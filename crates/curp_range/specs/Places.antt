-- Where a hash and a range stand among spans in ascending order.
use Rattle.std.specs.Prelude.{ℕ, ◌<◌, ◌≤◌, List, length, slice_index_or}
use Rattle.curp_range.specs.Spans.{Span}

-- so many spans end before the hash, which stand in front
pub record IsSpanPlace (spans : List Span) (hash at : ℕ) : Type 0 where
  pub within : at ≤ length spans
  pub before : (k : ℕ) (d : Span) → k < at → (slice_index_or spans k d).1 < hash
  pub from : (k : ℕ) (d : Span) → at ≤ k → k < length spans → hash ≤ (slice_index_or spans k d).1

-- the span at this place has the whole range
pub record IsSpanOf (spans : List Span) (lo hi at : ℕ) : Type 0 where
  pub within : at < length spans
  pub first : (d : Span) → (slice_index_or spans at d).0 ≤ lo
  pub last : (d : Span) → hi ≤ (slice_index_or spans at d).1
