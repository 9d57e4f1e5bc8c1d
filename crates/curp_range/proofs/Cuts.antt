-- What a cut out of one span leaves.
use Rattle.std.proofs.Common.{◌≡◌, ℕ, zero, suc, ◌+◌, ◌-◌, ◌^◌, ◌<◌, ◌≤◌, Bool, true, false, ◌&&◌, ◌||◌, not, List, [], ◌∷◌, ◌++◌, length, get_or, take, drop, set, insert, remove, refl, ap, subst, add-one, arith}
use Rattle.std.proofs.lemmas.Bool.Decides.{nat_tests}
use Rattle.curp_range.specs.Spans.{Span, is_in, is_owned, AscendWithin, SpansAscend, AreSpansOf}
use Rattle.curp_range.specs.Places.{IsSpanOf}
use Rattle.curp_range.proofs.Ascending.{above_range, range_bounds, from_lower, starts, none_below, or_swap, owned-append, owned_read}

-- other spans in the place of one
abbrev pub replaced : List Span → ℕ → List Span → List Span
replaced xs at ys = take at xs ++ (ys ++ drop (suc at) xs)

pub ascend-prefix : (f t c b : ℕ) (ys xs : List Span) → AscendWithin c (b + 1) ys → AscendWithin (b + 2) t xs → f ≤ c → c ≤ b → b < t → AscendWithin f t (ys ++ xs)
ascend-prefix f t c b [] xs a r l m u = from_lower (b + 2) f t xs (omega arith) r
ascend-prefix f t c b (y ∷ []) xs a r l m u = (omega (arith, a.0), a.1, omega (arith, a.2), from_lower (b + 2) (y.1 + 2) t xs (omega (arith, a.2)) r)
ascend-prefix f t c b (y ∷ z ∷ ys) xs a r l m u = (omega (arith, a.0), a.1, omega (arith, a.2), ascend-prefix (y.1 + 2) t (y.1 + 2) b (z ∷ ys) xs a.3 r (omega arith) (omega (arith, a.3.0, a.3.1, a.3.2)) u)

pub ascend-replaced : (f t : ℕ) (xs : List Span) (at : ℕ) (d : Span) (ys : List Span) → AscendWithin f t xs → at < length xs → AscendWithin (get_or xs at d).0 ((get_or xs at d).1 + 1) ys → AscendWithin f t (replaced xs at ys)
ascend-replaced f t [] at d ys a l b = absurd (omega arith)
ascend-replaced f t (s ∷ xs) zero d ys a l b = ascend-prefix f t s.0 s.1 ys xs b a.3 a.0 a.1 a.2
ascend-replaced f t (s ∷ xs) (suc at) d ys a l b = (a.0, a.1, a.2, ascend-replaced (s.1 + 2) t xs at d ys a.3 (omega arith) b)

and_or : (a b c : Bool) → (c ≡ true → a ≡ false) → (a || (b && not c)) ≡ ((a || b) && not c)
and_or true b true apart = absurd (cc (apart refl))
and_or true b false apart = refl
and_or false b c apart = refl

-- the others, and those in the place
pub owned-replaced : (xs : List Span) (at : ℕ) (ys : List Span) (h : ℕ) → is_owned (replaced xs at ys) h ≡ (is_owned (remove xs at) h || is_owned ys h)
owned-replaced xs at ys h =
    rw (owned-append (take at xs) (ys ++ drop (suc at) xs) h, owned-append ys (drop (suc at) xs) h, owned-append (take at xs) (drop (suc at) xs) h)
    (or_swap (is_owned (take at xs) h) (is_owned ys h) (is_owned (drop (suc at) xs) h))

-- no other span has a hash of this one
pub apart : (f t : ℕ) (xs : List Span) (at h : ℕ) (d : Span) → AscendWithin f t xs → at < length xs → (get_or xs at d).0 ≤ h → h ≤ (get_or xs at d).1 → is_owned (remove xs at) h ≡ false
apart f t [] at h d a l first last = absurd (omega arith)
apart f t (s ∷ xs) zero h d a l first last = none_below (s.1 + 2) t xs h a.3 (omega arith)
apart f t (s ∷ xs) (suc at) h d a l first last =
    rw (above_range s.0 s.1 h (omega (arith, starts (s.1 + 2) t xs at d a.3 (omega arith)))) (apart (s.1 + 2) t xs at h d a.3 (omega arith) first last)

-- the new spans are those of what the old ones own but for the range
abbrev pub IsCut : List Span → ℕ → ℕ → List Span → Type 0
IsCut old lo hi new = AreSpansOf (λ h. is_owned old h && not (is_in lo hi h)) new

-- the spans in the place of s, which has the range, are what is left of s
cut_of : (xs : List Span) (lo hi at : ℕ) (s : Span) (ys : List Span) → SpansAscend xs → IsSpanOf xs lo hi at → s ≡ get_or xs at s
    → AscendWithin s.0 (s.1 + 1) ys → ((h : ℕ) → is_owned ys h ≡ (is_in s.0 s.1 h && not (is_in lo hi h))) → IsCut xs lo hi (replaced xs at ys)
cut_of xs lo hi at s ys a place is ascend left = record {
  ascend = ascend-replaced 0 (2 ^ 64) xs at s ys a place.within (subst (λ (r : Span). AscendWithin r.0 (r.1 + 1) ys) is ascend);
  owned = owned;
}
  where
    others : (h : ℕ) → is_in lo hi h ≡ true → is_owned (remove xs at) h ≡ false
    others h e = let bounds = range_bounds lo hi h e in apart 0 (2 ^ 64) xs at h s a place.within (omega (arith, place.first s, bounds.0)) (omega (arith, place.last s, bounds.1))

    owned : (h : ℕ) → is_owned (replaced xs at ys) h ≡ (is_owned xs h && not (is_in lo hi h))
    owned h = rw (owned-replaced xs at ys h, left h, owned_read xs at s is h place.within) (and_or (is_owned (remove xs at) h) (is_in s.0 s.1 h) (is_in lo hi h) (others h))

-- the edits, as lists put together
set_parts : (xs : List Span) (at : ℕ) (y : Span) → at < length xs → set xs at y ≡ replaced xs at (y ∷ [])
set_parts [] at y l = absurd (omega arith)
set_parts (x ∷ xs) zero y l = refl
set_parts (x ∷ xs) (suc at) y l = ap (λ (zs : List Span). x ∷ zs) (set_parts xs at y (omega arith))

insert_parts : (xs : List Span) (at : ℕ) (y z : Span) → at < length xs → insert (set xs at y) (suc at) z ≡ replaced xs at (y ∷ z ∷ [])
insert_parts [] at y z l = absurd (omega arith)
insert_parts (x ∷ xs) zero y z l = refl
insert_parts (x ∷ xs) (suc at) y z l = ap (λ (zs : List Span). x ∷ zs) (insert_parts xs at y z (omega arith))

-- the whole span
pub cut_whole : (xs : List Span) (lo hi at : ℕ) (s : Span) → SpansAscend xs → lo ≤ hi → IsSpanOf xs lo hi at → s ≡ get_or xs at s → lo ≤ s.0 → s.1 ≤ hi → IsCut xs lo hi (remove xs at)
cut_whole xs lo hi at s a o place is prefix back = cut_of xs lo hi at s [] a place is tt left
  where
    left : (h : ℕ) → false ≡ (is_in s.0 s.1 h && not (is_in lo hi h))
    left h = grind (arith, nat_tests)

-- its end
pub cut_back : (xs : List Span) (lo hi at : ℕ) (s : Span) → SpansAscend xs → lo ≤ hi → IsSpanOf xs lo hi at → s ≡ get_or xs at s → s.0 < lo → s.1 ≤ hi → IsCut xs lo hi (set xs at (s.0, lo - 1))
cut_back xs lo hi at s a o place is prefix back =
    rw (set_parts xs at (s.0, lo - 1) place.within) (cut_of xs lo hi at s ((s.0, lo - 1) ∷ []) a place is (omega arith, omega arith, last, tt) left)
  where
    last : lo - 1 < s.1 + 1
    last = let reads : s.1 ≡ (get_or xs at s).1 = ap (λ (r : Span). r.1) is in omega (arith, place.last s)

    left : (h : ℕ) → (is_in s.0 (lo - 1) h || false) ≡ (is_in s.0 s.1 h && not (is_in lo hi h))
    left h = let within = last in grind (arith, nat_tests)

-- its prefix
pub cut_prefix : (xs : List Span) (lo hi at : ℕ) (s : Span) → SpansAscend xs → lo ≤ hi → IsSpanOf xs lo hi at → s ≡ get_or xs at s → lo ≤ s.0 → hi < s.1 → IsCut xs lo hi (set xs at (hi + 1, s.1))
cut_prefix xs lo hi at s a o place is prefix back =
    rw (set_parts xs at (hi + 1, s.1) place.within) (cut_of xs lo hi at s ((hi + 1, s.1) ∷ []) a place is (first, omega arith, omega arith, tt) left)
  where
    first : s.0 ≤ hi + 1
    first = let reads : s.0 ≡ (get_or xs at s).0 = ap (λ (r : Span). r.0) is in omega (arith, place.first s)

    left : (h : ℕ) → (is_in (hi + 1) s.1 h || false) ≡ (is_in s.0 s.1 h && not (is_in lo hi h))
    left h = let within = first in grind (arith, nat_tests)

-- its middle
pub cut_middle : (xs : List Span) (lo hi at : ℕ) (s : Span) → SpansAscend xs → lo ≤ hi → IsSpanOf xs lo hi at → s ≡ get_or xs at s → s.0 < lo → hi < s.1 → IsCut xs lo hi (insert (set xs at (s.0, lo - 1)) (at + 1) (hi + 1, s.1))
cut_middle xs lo hi at s a o place is prefix back =
    rw (add-one at, insert_parts xs at (s.0, lo - 1) (hi + 1, s.1) place.within)
    (cut_of xs lo hi at s ((s.0, lo - 1) ∷ (hi + 1, s.1) ∷ []) a place is (omega arith, omega arith, omega arith, (omega arith, omega arith, omega arith, tt)) left)
  where
    left : (h : ℕ) → (is_in s.0 (lo - 1) h || (is_in (hi + 1) s.1 h || false)) ≡ (is_in s.0 s.1 h && not (is_in lo hi h))
    left h = grind (arith, nat_tests)
