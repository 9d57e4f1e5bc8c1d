-- The ranges of partitions at the opening: where they end, and that no two have a hash in common.
use Rattle.std.proofs.Common.{◌≡◌, ◌<◌, ◌≤◌, inl, inr, ℕ, ◌+◌, ◌-◌, ◌*◌, ◌/◌, ◌^◌, nat_le, true, refl, arith, add-mul, div-mul-le_self, one-mul}
use Rattle.std.proofs.Math.Nat.{div-le_of_le-mul}
use Rattle.std.proofs.lemmas.Bool.{cases_eq, cases_lt}
use Rattle.std.proofs.lemmas.Bool.Decides.{nat_tests}
use Rattle.std.proofs.lemmas.Nat.{le-div}
use Rattle.curp_range.proofs.Ascending.{range_bounds}
use Rattle.curp_range.specs.Spans.{is_in}
use Rattle.curp_model.specs.Ranges.{opening_hi, opening_lo, opening_range, range_of, range_or_all}

pub range_lo : (lo hi : ℕ) → nat_le lo hi ≡ true → (range_or_all (range_of lo hi)).lo ≡ lo
range_lo lo hi t = grind (arith, nat_tests)

pub range_hi : (lo hi : ℕ) → nat_le lo hi ≡ true → (range_or_all (range_of lo hi)).hi ≡ hi
range_hi lo hi t = grind (arith, nat_tests)

module _ (n : ℕ) (some : 1 ≤ n) (fits : n ≤ 2 ^ 64) where
  -- no range is empty
  pub not_empty : (p : ℕ) → 1 ≤ p → ((p - 1) * 2 ^ 64) / n + 1 ≤ (p * 2 ^ 64) / n
  not_empty p one =
      let a = ((p - 1) * 2 ^ 64) / n in
      let low : a * n ≤ (p - 1) * 2 ^ 64 = div-mul-le_self ((p - 1) * 2 ^ 64) n in
      let more : (a + 1) * n ≡ a * n + n = simp (add-mul, one-mul) refl in
      le-div (a + 1) (p * 2 ^ 64) n (omega arith) (omega (arith, low, more))

  follows : (p q : ℕ) → p < q → (p * 2 ^ 64) / n ≤ ((q - 1) * 2 ^ 64) / n
  follows p q lt =
      let low : ((p * 2 ^ 64) / n) * n ≤ p * 2 ^ 64 = div-mul-le_self (p * 2 ^ 64) n in
      le-div ((p * 2 ^ 64) / n) ((q - 1) * 2 ^ 64) n (omega arith) (omega (arith, low))

  -- the range of a partition has these ends
  pub at_ends : (p : ℕ) → 1 ≤ p → ((opening_range n p).lo ≡ ((p - 1) * 2 ^ 64) / n) × ((opening_range n p).hi ≡ (p * 2 ^ 64) / n - 1)
  at_ends p one =
      let o = not_empty p one in
      let l : ((p - 1) * 2 ^ 64) / n ≤ (p * 2 ^ 64) / n - 1 = omega (arith, o) in
      let t : nat_le (opening_lo n p) (opening_hi n p) ≡ true = grind (arith, nat_tests) in
      (range_lo (opening_lo n p) (opening_hi n p) t, range_hi (opening_lo n p) (opening_hi n p) t)

  -- the last hash has 64 bits
  pub last_fits : (p : ℕ) → 1 ≤ p → p ≤ n → (opening_range n p).hi < 2 ^ 64
  last_fits p one within =
      let whole : (p * 2 ^ 64) / n ≤ 2 ^ 64 = div-le_of_le-mul n (omega (arith, within)) in
      omega (arith, whole, not_empty p one, (at_ends p one).1)

  apart : (p q h : ℕ) → 1 ≤ p → p < q → is_in (opening_range n p).lo (opening_range n p).hi h ≡ true → is_in (opening_range n q).lo (opening_range n q).hi h ≡ true → ⊥
  apart p q h one lt a b =
      let ends_p = at_ends p one in
      let ends_q = at_ends q (omega (arith, one, lt)) in
      let in_p = range_bounds (opening_range n p).lo (opening_range n p).hi h a in
      let in_q = range_bounds (opening_range n q).lo (opening_range n q).hi h b in
      omega (arith, not_empty p one, follows p q lt, ends_p.1, ends_q.0, in_p.1, in_q.0)

  -- no two partitions have a hash in common
  pub one_has : (p q h : ℕ) → 1 ≤ p → 1 ≤ q → is_in (opening_range n p).lo (opening_range n p).hi h ≡ true → is_in (opening_range n q).lo (opening_range n q).hi h ≡ true → p ≡ q
  one_has p q h one two a b = elim (cases_eq p q) [
    | inl same ↦ same
    | inr ne ↦ elim (cases_lt p q) [
      | inl lt ↦ absurd (apart p q h one lt a b)
      | inr ge ↦ let lt : q < p = omega arith in absurd (apart q p h two lt b a)
    ]
  ]
