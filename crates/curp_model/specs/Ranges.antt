-- The hashes that a partition owns, as ascending spans that neither overlap nor touch (this project's own).
use Rattle.std.specs.Prelude.{◌≡◌, ◌≤◌, ℕ, ◌-◌, ◌*◌, ◌/◌, ◌^◌, nat_le, Bool, true, false, List, Option, Some, None}
use Rattle.std.proofs.Common.{arith, refl}
use Rattle.std.proofs.lemmas.Bool.{leb-true}
use Rattle.std.specs.List.{list_all}
use Rattle.curp_range.specs.Spans.{Span, is_owned}

-- all hashes of a list are owned
abbrev pub owns_all : List Span → List ℕ → Bool
owns_all spans hs = list_all (is_owned spans) hs

-- the first and the last hash of partition p of n, at opening
abbrev pub opening_lo : ℕ → ℕ → ℕ
opening_lo n p = ((p - 1) * 2 ^ 64) / n

-- the last hash of partition p of n
abbrev pub opening_hi : ℕ → ℕ → ℕ
opening_hi n p = (p * 2 ^ 64) / n - 1

-- a range of hashes, both ends counted
pub record Range : Type 0 where
  pub lo : ℕ
  pub hi : ℕ
  pub ordered : lo ≤ hi

-- the range from lo to hi, where lo isn't above hi
abbrev pub range_of : (lo hi : ℕ) → Option Range
range_of lo hi = go (nat_le lo hi) refl
  where
    go : (b : Bool) → nat_le lo hi ≡ b → Option Range
    go true e = Some (record { lo = lo; hi = hi; ordered = leb-true lo hi e })
    go false e = None

-- a range that is there
abbrev pub range_or_all : Option Range → Range
range_or_all (Some r) = r
range_or_all None = record { lo = 0; hi = 2 ^ 64 - 1; ordered = omega arith }

-- the range of partition p of n, at opening. It is never empty
abbrev pub opening_range : ℕ → ℕ → Range
opening_range n p = range_or_all (range_of (opening_lo n p) (opening_hi n p))
