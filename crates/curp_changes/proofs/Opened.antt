-- The ranges at opening.
use Rattle.std.proofs.Common.{◌≡◌, ◌<◌, ◌≤◌, ℕ, ◌+◌, ◌-◌, ◌*◌, ◌/◌, ◌^◌, nat_le, true, refl, arith, add-mul, div-mul-le_self, one-mul}
use Rattle.std.proofs.Math.Nat.{div-le_of_le-mul}
use mathlib.Core.HLevel.{is_prop→PathP}
use Rattle.std.proofs.lemmas.Bool.Decides.{nat_tests}
use Rattle.std.proofs.lemmas.Nat.{div_below, le-div}
use Rattle.std.proofs.Math.Bridge.{le_prop}
use Rattle.curp_model.specs.Ranges.{Range, opening_hi, opening_lo, opening_range}
use Rattle.curp_model.proofs.OpeningRanges.{range_lo, range_hi}

module _ (n p : ℕ) (one : 1 ≤ p) (last : p ≤ n) (fits : n < 2 ^ 32) where
  -- no range is empty
  pub not_empty : ((p - 1) * 2 ^ 64) / n + 1 ≤ (p * 2 ^ 64) / n
  not_empty =
      let a = ((p - 1) * 2 ^ 64) / n in
      let low : a * n ≤ (p - 1) * 2 ^ 64 = div-mul-le_self ((p - 1) * 2 ^ 64) n in
      let more : (a + 1) * n ≡ a * n + n = simp (add-mul, one-mul) refl in
      le-div (a + 1) (p * 2 ^ 64) n (omega (arith, one, last)) (omega (arith, low, more, one, last, fits))

  -- the first hash has 64 bits
  pub lo_fits : ((p - 1) * 2 ^ 64) / n < 2 ^ 64
  lo_fits = div_below ((p - 1) * 2 ^ 64) n (2 ^ 64) (omega (arith, one, last)) (omega (arith, one, last))

  -- so has the last, which is one below this
  pub hi_fits : (p * 2 ^ 64) / n ≤ 2 ^ 64
  hi_fits = div-le_of_le-mul n (omega (arith, one, last))

  -- the range of a partition has these ends
  pub opening_lo_is : (opening_range n p).lo ≡ opening_lo n p
  opening_lo_is =
      let o = not_empty in
      let l : opening_lo n p ≤ opening_hi n p = omega (arith, o) in
      let t : nat_le (opening_lo n p) (opening_hi n p) ≡ true = grind (arith, nat_tests) in
      range_lo (opening_lo n p) (opening_hi n p) t

  pub opening_hi_is : (opening_range n p).hi ≡ opening_hi n p
  opening_hi_is =
      let o = not_empty in
      let l : opening_lo n p ≤ opening_hi n p = omega (arith, o) in
      let t : nat_le (opening_lo n p) (opening_hi n p) ≡ true = grind (arith, nat_tests) in
      range_hi (opening_lo n p) (opening_hi n p) t

-- a range has one proof of its order
pub one_range : (a b : Range) → a.lo ≡ b.lo → a.hi ≡ b.hi → a ≡ b
one_range a b lo hi = λ i. record { lo = lo i; hi = hi i; ordered = is_prop→PathP (λ j. lo j ≤ hi j) (λ j. le_prop) a.ordered b.ordered i }

-- the ends of the ranges at opening
pub ruleset opening_ends = (not_empty, lo_fits, hi_fits, opening_lo_is, opening_hi_is)
