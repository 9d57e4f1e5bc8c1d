-- The tests on spans say what is so of the hashes.
use Rattle.std.proofs.Common.{◌≡◌, inl, inr, ℕ, ◌+◌, ◌<◌, ◌≤◌, true, ◌&&◌, nat_le, List, [], ◌∷◌, arith}
use Rattle.std.proofs.lemmas.Bool.{cases_lt, and_parts, and_from, or_cases, or_left, or_right}
use Rattle.std.proofs.lemmas.Bool.Decides.{nat_tests}
use Rattle.curp_range.specs.Spans.{Span, is_in, is_owned, is_covered, is_met, Covers, Meets, AscendWithin}
use Rattle.curp_range.proofs.Ascending.{in_range, above_range, range_bounds, from_first, none_below}

at_most : (a b : ℕ) → nat_le a b ≡ true → a ≤ b
at_most a b e = grind (arith, nat_tests)

at_most_true : (a b : ℕ) → a ≤ b → nat_le a b ≡ true
at_most_true a b l = grind (arith, nat_tests)

pub covers_if_covered : (xs : List Span) (lo hi : ℕ) → is_covered xs lo hi ≡ true → Covers xs lo hi
covers_if_covered [] lo hi e h i = absurd cc
covers_if_covered (s ∷ xs) lo hi e h i = elim (or_cases (nat_le s.0 lo && nat_le hi s.1) (is_covered xs lo hi) e) [
  | inl here ↦
      let parts = and_parts _ _ here in
      let bounds = range_bounds lo hi h i in
      let first : s.0 ≤ lo = at_most _ _ parts.0 in
      let last : hi ≤ s.1 = at_most _ _ parts.1 in
      or_left _ _ (in_range s.0 s.1 h (omega (arith, bounds.0)) (omega (arith, bounds.1)))
  | inr later ↦ or_right (is_in s.0 s.1 h) _ (covers_if_covered xs lo hi later h i)
]

-- the range lies behind the first span
covers_tail : (s : Span) (xs : List Span) (lo hi : ℕ) → s.1 < lo → Covers (s ∷ xs) lo hi → Covers xs lo hi
covers_tail s xs lo hi l c h i = rw (above_range s.0 s.1 h (omega (arith, (range_bounds lo hi h i).0))) at (c h i)

-- the range begins in the first span, and ends in it
covers_here : (f t : ℕ) (s : Span) (xs : List Span) (lo hi : ℕ) → AscendWithin f t (s ∷ xs) → lo ≤ hi → lo ≤ s.1 → Covers (s ∷ xs) lo hi → (s.0 ≤ lo) × (hi ≤ s.1)
covers_here f t s xs lo hi a o l c = (
  elim (cases_lt lo s.0) [ inl below ↦ absurd (cc (c lo (in_range lo hi lo (omega arith) o), none_below s.0 t (s ∷ xs) lo (from_first f t s xs a) below)) | inr first ↦ first ],
  elim (cases_lt s.1 hi) [ inl short ↦ absurd (cc (next short, none_below (s.1 + 2) t xs (s.1 + 1) a.3 (omega arith))) | inr last ↦ last ],
)
  where
    next : s.1 < hi → is_owned xs (s.1 + 1) ≡ true
    next short = rw (above_range s.0 s.1 (s.1 + 1) (omega arith)) at (c (s.1 + 1) (in_range lo hi (s.1 + 1) (omega arith) (omega arith)))

pub covered_if_covers : (f t : ℕ) (xs : List Span) (lo hi : ℕ) → AscendWithin f t xs → lo ≤ hi → Covers xs lo hi → is_covered xs lo hi ≡ true
covered_if_covers f t [] lo hi a o c = absurd (cc (c lo (in_range lo hi lo (omega arith) o)))
covered_if_covers f t (s ∷ xs) lo hi a o c = elim (cases_lt s.1 lo) [
  | inl behind ↦ or_right (nat_le s.0 lo && nat_le hi s.1) _ (covered_if_covers (s.1 + 2) t xs lo hi a.3 o (covers_tail s xs lo hi behind c))
  | inr l ↦ let ends = covers_here f t s xs lo hi a o l c in or_left _ _ (and_from _ _ (at_most_true _ _ ends.0) (at_most_true _ _ ends.1))
]

-- a span and a range that reach into one another have the greater of their first hashes
meets_here : (s : Span) (xs : List Span) (lo hi : ℕ) → s.0 ≤ s.1 → lo ≤ hi → s.0 ≤ hi → lo ≤ s.1 → Meets (s ∷ xs) lo hi
meets_here s xs lo hi q o first last = elim (cases_lt lo s.0) [
  | inl below ↦ (s.0, in_range lo hi s.0 (omega arith) first, or_left _ _ (in_range s.0 s.1 s.0 (omega arith) q))
  | inr above ↦ (lo, in_range lo hi lo (omega arith) o, or_left _ _ (in_range s.0 s.1 lo above last))
]

pub meets_if_met : (f t : ℕ) (xs : List Span) (lo hi : ℕ) → AscendWithin f t xs → lo ≤ hi → is_met xs lo hi ≡ true → Meets xs lo hi
meets_if_met f t [] lo hi a o e = absurd cc
meets_if_met f t (s ∷ xs) lo hi a o e = elim (or_cases (nat_le s.0 hi && nat_le lo s.1) (is_met xs lo hi) e) [
  | inl here ↦ let parts = and_parts _ _ here in meets_here s xs lo hi a.1 o (at_most _ _ parts.0) (at_most _ _ parts.1)
  | inr later ↦ let m : Meets xs lo hi = meets_if_met (s.1 + 2) t xs lo hi a.3 o later in (m.0, m.1, or_right (is_in s.0 s.1 m.0) _ m.2)
]

pub met_if_meets : (xs : List Span) (lo hi h : ℕ) → is_in lo hi h ≡ true → is_owned xs h ≡ true → is_met xs lo hi ≡ true
met_if_meets [] lo hi h i e = absurd cc
met_if_meets (s ∷ xs) lo hi h i e = elim (or_cases (is_in s.0 s.1 h) (is_owned xs h) e) [
  | inl here ↦
      let range = range_bounds lo hi h i in
      let span = range_bounds s.0 s.1 h here in
      let first : s.0 ≤ hi = omega (arith, range.1, span.0) in
      let last : lo ≤ s.1 = omega (arith, range.0, span.1) in
      or_left _ _ (and_from _ _ (at_most_true _ _ first) (at_most_true _ _ last))
  | inr later ↦ or_right (nat_le s.0 hi && nat_le lo s.1) _ (met_if_meets xs lo hi h i later)
]
