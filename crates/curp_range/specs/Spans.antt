-- Sets of hashes, written as lists of spans.
use Rattle.std.specs.Prelude.{◌≡◌, ℕ, ◌+◌, ◌-◌, ◌<◌, ◌≤◌, ◌^◌, nat_le, nat_lt, min, max, Bool, ◌&&◌, if◌then◌else◌, ⊤}
use Rattle.std.specs.Prelude.{IsTrue, IsFalse, List, [], ◌∷◌, ◌++◌, flat_map}
use Rattle.std.specs.List.{list_any}

-- a span (a, b) is the hashes from a to b, both included
abbrev pub Span : Type 0
Span = ℕ × ℕ

-- ranges in memory: their spans, and for how many more spans there is room
pub record RangeSet : Type 0 where
  pub spans : List Span
  pub spare : ℕ

-- whether the hash lies in the range from lo to hi
abbrev pub is_in : ℕ → ℕ → ℕ → Bool
is_in lo hi hash = nat_le lo hash && nat_le hash hi

-- whether some span has the hash
abbrev pub is_owned : List Span → ℕ → Bool
is_owned spans hash = list_any (λ (s : Span). is_in s.0 s.1 hash) spans

-- some span has the hash
abbrev pub Owns : List Span → ℕ → Type 0
Owns spans hash = IsTrue (is_owned spans hash)

-- each hash of the range is owned
abbrev pub Covers : List Span → ℕ → ℕ → Type 0
Covers spans lo hi = (hash : ℕ) → IsTrue (is_in lo hi hash) → Owns spans hash

-- some hash of the range is not owned
abbrev pub Lacks : List Span → ℕ → ℕ → Type 0
Lacks spans lo hi = (hash : ℕ) × IsTrue (is_in lo hi hash) × IsFalse (is_owned spans hash)

-- some hash of the range is owned
abbrev pub Meets : List Span → ℕ → ℕ → Type 0
Meets spans lo hi = (hash : ℕ) × IsTrue (is_in lo hi hash) × Owns spans hash

-- whether one span has the whole range
abbrev pub is_covered : List Span → ℕ → ℕ → Bool
is_covered spans lo hi = list_any (λ (s : Span). nat_le s.0 lo && nat_le hi s.1) spans

-- whether some span has a hash in common with the range
abbrev pub is_met : List Span → ℕ → ℕ → Bool
is_met spans lo hi = list_any (λ (s : Span). nat_le s.0 hi && nat_le lo s.1) spans

-- the spans have hashes from `from` on and below `end`, ascend, and do not touch: a hash that no span has lies between
-- any two
abbrev pub AscendWithin : ℕ → ℕ → List Span → Type 0
AscendWithin from end [] = ⊤
AscendWithin from end (s ∷ rest) = (from ≤ s.0) × (s.0 ≤ s.1) × (s.1 < end) × AscendWithin (s.1 + 2) end rest

-- the same for hashes of 64 bits
abbrev pub SpansAscend : List Span → Type 0
SpansAscend spans = AscendWithin 0 (2 ^ 64) spans

-- the spans of a set of hashes: they ascend, and own exactly the hashes that the set has
pub record AreSpansOf (has : ℕ → Bool) (spans : List Span) : Type 0 where
  pub ascend : SpansAscend spans
  pub owned : (hash : ℕ) → is_owned spans hash ≡ has hash

-- what a span has below a range that begins at lo
abbrev pub part_below : Span → ℕ → List Span
part_below s lo = if nat_lt s.0 lo then (s.0, min s.1 (lo - 1)) ∷ [] else []

-- what a span has above a range that ends at hi
abbrev pub part_above : Span → ℕ → List Span
part_above s hi = if nat_lt hi s.1 then (max s.0 (hi + 1), s.1) ∷ [] else []

-- the spans without a range
abbrev pub without : List Span → ℕ → ℕ → List Span
without spans lo hi = flat_map (λ (s : Span). part_below s lo ++ part_above s hi) spans

-- the spans with a range: those that meet or touch it become one with it
abbrev pub with_range : List Span → ℕ → ℕ → List Span
with_range [] lo hi = (lo, hi) ∷ []
with_range (s ∷ spans) lo hi =
    if nat_lt (s.1 + 1) lo then s ∷ with_range spans lo hi
    else if nat_lt (hi + 1) s.0 then (lo, hi) ∷ s ∷ spans
    else with_range spans (min s.0 lo) (max s.1 hi)
