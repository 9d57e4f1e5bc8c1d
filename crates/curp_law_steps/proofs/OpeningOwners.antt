-- Each hash lies in the range of some partition at opening.
use Rattle.std.proofs.Common.{◌≡◌, ◌<◌, ◌≤◌, inl, inr, ℕ, zero, suc, ◌-◌, ◌*◌, ◌/◌, ◌^◌, nat_le, true, ap, ap₂, ◌∙◌, arith, div-le_self}
use Rattle.std.proofs.lemmas.Bool.{cases_lt}
use Rattle.std.proofs.lemmas.Bool.Decides.{nat_tests}
use Rattle.std.proofs.lemmas.Nat.{le-div}
use Rattle.curp_range.specs.Spans.{is_in}
use Rattle.curp_range.proofs.Ascending.{in_range}
use Rattle.curp_model.specs.Ranges.{opening_lo, opening_range, range_of, range_or_all}
use Rattle.curp_model.proofs.OpeningRanges.{range_lo, range_hi}

-- a hash between two ends lies in their range
in_ends : (lo end h : ℕ) → lo ≤ h → h < end → is_in (range_or_all (range_of lo (end - 1))).lo (range_or_all (range_of lo (end - 1))).hi h ≡ true
in_ends lo end h low high =
    let within : lo ≤ end - 1 = omega (arith, low, high) in
    let t : nat_le lo (end - 1) ≡ true = grind (arith, nat_tests) in
    ap₂ (λ (a b : ℕ). is_in a b h) (range_lo lo (end - 1) t) (range_hi lo (end - 1) t) ∙ in_range lo (end - 1) h low (omega (arith, high))

-- the first partition whose range ends above the hash has it
pub opening_owner : (n h : ℕ) → 1 ≤ n → h < 2 ^ 64 → (p : ℕ) × (1 ≤ p) × (p ≤ n) × (is_in (opening_range n p).lo (opening_range n p).hi h ≡ true)
opening_owner n h some below =
    let whole : 2 ^ 64 ≤ (n * 2 ^ 64) / n = le-div (2 ^ 64) (n * 2 ^ 64) n (omega arith) (omega arith) in
    find n (omega arith) (omega (arith, whole, below))
  where
    find : (p : ℕ) → p ≤ n → h < (p * 2 ^ 64) / n → (q : ℕ) × (1 ≤ q) × (q ≤ n) × (is_in (opening_range n q).lo (opening_range n q).hi h ≡ true)
    find zero high under = let none : (0 * 2 ^ 64) / n ≤ 0 * 2 ^ 64 = div-le_self (0 * 2 ^ 64) n in absurd (omega (arith, none, under))
    find (suc p) high under = elim (cases_lt h ((p * 2 ^ 64) / n)) [
      | inl low ↦ find p (omega (arith, high)) low
      | inr above ↦
          let one : suc p - 1 ≡ p = omega arith in
          let same : ((suc p - 1) * 2 ^ 64) / n ≡ (p * 2 ^ 64) / n = ap (λ (k : ℕ). (k * 2 ^ 64) / n) one in
          (suc p, omega arith, high, in_ends (opening_lo n (suc p)) ((suc p * 2 ^ 64) / n) h (omega (arith, above, same)) under)
    ]
