-- What the spans without a range, and those with one, own.
use Rattle.std.proofs.Common.{◌≡◌, ℕ, ◌+◌, ◌-◌, ◌^◌, ◌<◌, ◌≤◌, min, max, Bool, true, false, ◌&&◌, ◌||◌, not, nat_lt, cond, List, [], ◌∷◌, ◌++◌, refl, ap, sym, ◌∙◌, arith}
use Rattle.std.proofs.Math.Bool.{or_comm}
use Rattle.std.proofs.lemmas.Bool.Decides.{nat_tests}
use Rattle.curp_range.specs.Spans.{Span, is_in, is_owned, AscendWithin, AreSpansOf, SpansAscend, part_below, part_above, without, with_range}
use Rattle.curp_range.proofs.Ascending.{from_lower, owned-append, or_under}
use Rattle.curp_range.proofs.Cuts.{ascend-prefix}
use Rattle.curp_range.proofs.Joins.{united}
use Rattle.curp_range.proofs.Same.{same_within}

-- what a span has beside a range
abbrev parts : Span → ℕ → ℕ → List Span
parts s lo hi = part_below s lo ++ part_above s hi

parts-ascend : (s : Span) (lo hi : ℕ) → s.0 ≤ s.1 → lo ≤ hi → AscendWithin s.0 (s.1 + 1) (parts s lo hi)
parts-ascend s lo hi order ordered = go (nat_lt s.0 lo) (nat_lt hi s.1) refl refl
  where
    go : (p q : Bool) → nat_lt s.0 lo ≡ p → nat_lt hi s.1 ≡ q
        → AscendWithin s.0 (s.1 + 1) (cond p ((s.0, min s.1 (lo - 1)) ∷ []) [] ++ cond q ((max s.0 (hi + 1), s.1) ∷ []) [])
    go true true e f =
        let starts : s.0 < lo = grind (arith, nat_tests) in
        let ends : hi < s.1 = grind (arith, nat_tests) in
        (omega arith, omega arith, omega arith, (omega arith, omega arith, omega arith, tt))
    go true false e f = let starts : s.0 < lo = grind (arith, nat_tests) in (omega arith, omega arith, omega arith, tt)
    go false true e f = let ends : hi < s.1 = grind (arith, nat_tests) in (omega arith, omega arith, omega arith, tt)
    go false false e f = tt

parts-owned : (s : Span) (lo hi h : ℕ) → s.0 ≤ s.1 → lo ≤ hi → is_owned (parts s lo hi) h ≡ (is_in s.0 s.1 h && not (is_in lo hi h))
parts-owned s lo hi h order ordered = go (nat_lt s.0 lo) (nat_lt hi s.1) refl refl
  where
    go : (p q : Bool) → nat_lt s.0 lo ≡ p → nat_lt hi s.1 ≡ q
        → is_owned (cond p ((s.0, min s.1 (lo - 1)) ∷ []) [] ++ cond q ((max s.0 (hi + 1), s.1) ∷ []) []) h ≡ (is_in s.0 s.1 h && not (is_in lo hi h))
    go true true e f = grind (arith, nat_tests)
    go true false e f = grind (arith, nat_tests)
    go false true e f = grind (arith, nat_tests)
    go false false e f = grind (arith, nat_tests)

and_over : (a b c : Bool) → ((a && c) || (b && c)) ≡ ((a || b) && c)
and_over true b true = refl
and_over true true false = refl
and_over true false false = refl
and_over false b c = refl

without-ascend : (f t : ℕ) (xs : List Span) (lo hi : ℕ) → AscendWithin f t xs → lo ≤ hi → AscendWithin f t (without xs lo hi)
without-ascend f t [] lo hi a o = tt
without-ascend f t (s ∷ xs) lo hi a o =
    ascend-prefix f t s.0 s.1 (parts s lo hi) (without xs lo hi) (parts-ascend s lo hi a.1 o) (without-ascend (s.1 + 2) t xs lo hi a.3 o) a.0 a.1 a.2

without-owned : (f t : ℕ) (xs : List Span) (lo hi h : ℕ) → AscendWithin f t xs → lo ≤ hi → is_owned (without xs lo hi) h ≡ (is_owned xs h && not (is_in lo hi h))
without-owned f t [] lo hi h a o = refl
without-owned f t (s ∷ xs) lo hi h a o =
    rw (owned-append (parts s lo hi) (without xs lo hi) h, parts-owned s lo hi h a.1 o, without-owned (s.1 + 2) t xs lo hi h a.3 o)
    (and_over (is_in s.0 s.1 h) (is_owned xs h) (not (is_in lo hi h)))

pub spans_without : (xs : List Span) (lo hi : ℕ) → SpansAscend xs → lo ≤ hi → AreSpansOf (λ h. is_owned xs h && not (is_in lo hi h)) (without xs lo hi)
spans_without xs lo hi a o = record {
  ascend = without-ascend 0 (2 ^ 64) xs lo hi a o;
  owned = λ h. without-owned 0 (2 ^ 64) xs lo hi h a o;
}

or_around : (a b c : Bool) → (a || (b || c)) ≡ ((c || a) || b)
or_around true b true = refl
or_around true b false = refl
or_around false true true = refl
or_around false true false = refl
or_around false false true = refl
or_around false false false = refl

-- the three ways of a range at the first span
with_range-ascend : (f t : ℕ) (xs : List Span) (lo hi : ℕ) → AscendWithin f t xs → f ≤ lo → lo ≤ hi → hi < t → AscendWithin f t (with_range xs lo hi)
with_range-ascend f t [] lo hi a l o u = (l, o, u, tt)
with_range-ascend f t (s ∷ xs) lo hi a l o u =
    go (λ behind. with_range-ascend (s.1 + 2) t xs lo hi a.3 behind o u)
    (with_range-ascend f t xs (min s.0 lo) (max s.1 hi) (from_lower (s.1 + 2) f t xs (omega (arith, a.0, a.1)) a.3) (omega (arith, a.0)) (omega (arith, a.1)) (omega (arith, a.2)))
    (nat_lt (s.1 + 1) lo) (nat_lt (hi + 1) s.0) refl refl
  where
    go : (s.1 + 2 ≤ lo → AscendWithin (s.1 + 2) t (with_range xs lo hi)) → AscendWithin f t (with_range xs (min s.0 lo) (max s.1 hi))
        → (p q : Bool) → nat_lt (s.1 + 1) lo ≡ p → nat_lt (hi + 1) s.0 ≡ q
        → AscendWithin f t (cond p (s ∷ with_range xs lo hi) (cond q ((lo, hi) ∷ s ∷ xs) (with_range xs (min s.0 lo) (max s.1 hi))))
    go rest grown true q e g = let behind : s.1 + 1 < lo = grind (arith, nat_tests) in (a.0, a.1, a.2, rest (omega arith))
    go rest grown false true e g = let prefix : hi + 1 < s.0 = grind (arith, nat_tests) in (l, o, u, (omega arith, a.1, a.2, a.3))
    go rest grown false false e g = grown

with_range-owned : (f t : ℕ) (xs : List Span) (lo hi h : ℕ) → AscendWithin f t xs → lo ≤ hi → is_owned (with_range xs lo hi) h ≡ (is_owned xs h || is_in lo hi h)
with_range-owned f t [] lo hi h a o = or_comm (is_in lo hi h) false
with_range-owned f t (s ∷ xs) lo hi h a o =
    go (with_range-owned (s.1 + 2) t xs lo hi h a.3 o) (with_range-owned (s.1 + 2) t xs (min s.0 lo) (max s.1 hi) h a.3 (omega (arith, a.1)))
    (nat_lt (s.1 + 1) lo) (nat_lt (hi + 1) s.0) refl refl
  where
    go : is_owned (with_range xs lo hi) h ≡ (is_owned xs h || is_in lo hi h)
        → is_owned (with_range xs (min s.0 lo) (max s.1 hi)) h ≡ (is_owned xs h || is_in (min s.0 lo) (max s.1 hi) h)
        → (p q : Bool) → nat_lt (s.1 + 1) lo ≡ p → nat_lt (hi + 1) s.0 ≡ q
        → is_owned (cond p (s ∷ with_range xs lo hi) (cond q ((lo, hi) ∷ s ∷ xs) (with_range xs (min s.0 lo) (max s.1 hi)))) h ≡ ((is_in s.0 s.1 h || is_owned xs h) || is_in lo hi h)
    go rest grown true q e g = or_under (is_in s.0 s.1 h) _ (is_owned xs h) (is_in lo hi h) rest
    go rest grown false true e g = or_comm (is_in lo hi h) (is_in s.0 s.1 h || is_owned xs h)
    go rest grown false false e g =
        let reach : lo ≤ s.1 + 1 = grind (arith, nat_tests) in
        let near : s.0 ≤ hi + 1 = grind (arith, nat_tests) in
        let one = united lo hi s.0 s.1 h o a.1 reach near in
        grown
        ∙ ap (λ (b : Bool). is_owned xs h || b) one
        ∙ or_around (is_owned xs h) (is_in lo hi h) (is_in s.0 s.1 h)

pub spans_with_range : (xs : List Span) (lo hi : ℕ) → SpansAscend xs → lo ≤ hi → hi < 2 ^ 64 → AreSpansOf (λ h. is_owned xs h || is_in lo hi h) (with_range xs lo hi)
spans_with_range xs lo hi a o u = record {
  ascend = with_range-ascend 0 (2 ^ 64) xs lo hi a (omega arith) o u;
  owned = λ h. with_range-owned 0 (2 ^ 64) xs lo hi h a o;
}

-- Spans that ascend are those by the definitions, if they own the same hashes.

pub is_without : (xs ys : List Span) (lo hi : ℕ) → SpansAscend xs → SpansAscend ys → lo ≤ hi → ((h : ℕ) → is_owned ys h ≡ (is_owned xs h && not (is_in lo hi h))) → ys ≡ without xs lo hi
is_without xs ys lo hi a b o owned =
    let spans = spans_without xs lo hi a o in
    same_within 0 (2 ^ 64) ys (without xs lo hi) b spans.ascend (λ h. owned h ∙ sym (spans.owned h))

pub is_with_range : (xs ys : List Span) (lo hi : ℕ) → SpansAscend xs → SpansAscend ys → lo ≤ hi → hi < 2 ^ 64 → ((h : ℕ) → is_owned ys h ≡ (is_owned xs h || is_in lo hi h)) → ys ≡ with_range xs lo hi
is_with_range xs ys lo hi a b o u owned =
    let spans = spans_with_range xs lo hi a o u in
    same_within 0 (2 ^ 64) ys (with_range xs lo hi) b spans.ascend (λ h. owned h ∙ sym (spans.owned h))
