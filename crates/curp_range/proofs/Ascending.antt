-- Spans in ascending order: what they own, and what an edit at one place leaves.
use Rattle.std.proofs.Common.{◌≡◌, ℕ, zero, suc, ◌+◌, ◌<◌, ◌≤◌, Bool, true, false, ◌||◌, List, [], ◌∷◌, ◌++◌, length, get_or, insert, remove, refl, sym, subst, arith}
use Rattle.std.proofs.Math.Bool.{or_assoc, or_comm}
use Rattle.std.proofs.lemmas.Bool.Decides.{nat_tests}
use Rattle.curp_range.specs.Spans.{Span, is_in, is_owned, AscendWithin}

-- tests on one range
pub in_range : (a b h : ℕ) → a ≤ h → h ≤ b → is_in a b h ≡ true
in_range a b h l u = grind (arith, nat_tests)

pub below_range : (a b h : ℕ) → h < a → is_in a b h ≡ false
below_range a b h l = grind (arith, nat_tests)

pub above_range : (a b h : ℕ) → b < h → is_in a b h ≡ false
above_range a b h u = grind (arith, nat_tests)

pub range_bounds : (a b h : ℕ) → is_in a b h ≡ true → (a ≤ h) × (h ≤ b)
range_bounds a b h e = (grind (arith, nat_tests), grind (arith, nat_tests))

-- bounds of a list
pub from_lower : (f g t : ℕ) (xs : List Span) → g ≤ f → AscendWithin f t xs → AscendWithin g t xs
from_lower f g t [] l a = tt
from_lower f g t (s ∷ xs) l a = (omega arith, a.1, a.2, a.3)

pub from_first : (f t : ℕ) (s : Span) (xs : List Span) → AscendWithin f t (s ∷ xs) → AscendWithin s.0 t (s ∷ xs)
from_first f t s xs a = (omega arith, a.1, a.2, a.3)

pub starts : (f t : ℕ) (xs : List Span) (k : ℕ) (d : Span) → AscendWithin f t xs → k < length xs → f ≤ (get_or xs k d).0
starts f t [] k d a l = absurd (omega arith)
starts f t (s ∷ xs) zero d a l = a.0
starts f t (s ∷ xs) (suc k) d a l = omega (arith, a.0, a.1, starts (s.1 + 2) t xs k d a.3 (omega arith))

pub ends : (f t : ℕ) (xs : List Span) (k : ℕ) (d : Span) → AscendWithin f t xs → k < length xs → ((get_or xs k d).0 ≤ (get_or xs k d).1) × ((get_or xs k d).1 < t)
ends f t [] k d a l = absurd (omega arith)
ends f t (s ∷ xs) zero d a l = (a.1, a.2)
ends f t (s ∷ xs) (suc k) d a l = ends (s.1 + 2) t xs k d a.3 (omega arith)

-- a later span begins at least two above an earlier one's end
pub rise : (f t : ℕ) (xs : List Span) (j k : ℕ) (d e : Span) → AscendWithin f t xs → j < k → k < length xs → (get_or xs j d).1 + 2 ≤ (get_or xs k e).0
rise f t [] j k d e a l m = absurd (omega arith)
rise f t (s ∷ xs) j zero d e a l m = absurd (omega arith)
rise f t (s ∷ xs) zero (suc k) d e a l m = starts (s.1 + 2) t xs k e a.3 (omega arith)
rise f t (s ∷ xs) (suc j) (suc k) d e a l m = rise (s.1 + 2) t xs j k d e a.3 (omega arith) (omega arith)

-- no span has a hash below all of them
pub none_below : (f t : ℕ) (xs : List Span) (h : ℕ) → AscendWithin f t xs → h < f → is_owned xs h ≡ false
none_below f t [] h a l = refl
none_below f t (s ∷ xs) h a l = rw (below_range s.0 s.1 h (omega (arith, a.0))) (none_below (s.1 + 2) t xs h a.3 (omega (arith, a.0, a.1)))

-- what lists put together own
pub owned-append : (xs ys : List Span) (h : ℕ) → is_owned (xs ++ ys) h ≡ (is_owned xs h || is_owned ys h)
owned-append [] ys h = refl
owned-append (s ∷ xs) ys h = rw (owned-append xs ys h) (sym (or_assoc (is_in s.0 s.1 h) (is_owned xs h) (is_owned ys h)))

pub or_swap : (a b c : Bool) → (a || (b || c)) ≡ ((a || c) || b)
or_swap true b c = refl
or_swap false b c = or_comm b c

pub or_under : (x a b c : Bool) → a ≡ (b || c) → (x || a) ≡ ((x || b) || c)
or_under true a b c e = refl
or_under false a b c e = e

pub owned-insert : (xs : List Span) (at : ℕ) (s : Span) (h : ℕ) → is_owned (insert xs at s) h ≡ (is_owned xs h || is_in s.0 s.1 h)
owned-insert [] zero s h = or_comm (is_in s.0 s.1 h) false
owned-insert [] (suc at) s h = or_comm (is_in s.0 s.1 h) false
owned-insert (x ∷ xs) zero s h = or_comm (is_in s.0 s.1 h) (is_owned (x ∷ xs) h)
owned-insert (x ∷ xs) (suc at) s h = or_under (is_in x.0 x.1 h) _ _ _ (owned-insert xs at s h)

-- the other spans, and the one at the place
pub owned-remove : (xs : List Span) (at : ℕ) (d : Span) (h : ℕ) → at < length xs → is_owned xs h ≡ (is_owned (remove xs at) h || is_in (get_or xs at d).0 (get_or xs at d).1 h)
owned-remove [] at d h l = absurd (omega arith)
owned-remove (x ∷ xs) zero d h l = or_comm (is_in x.0 x.1 h) (is_owned xs h)
owned-remove (x ∷ xs) (suc at) d h l = or_under (is_in x.0 x.1 h) _ _ _ (owned-remove xs at d h (omega arith))

-- the same, with the span as it was read there
pub owned_read : (xs : List Span) (at : ℕ) (s : Span) → s ≡ get_or xs at s → (h : ℕ) → at < length xs → is_owned xs h ≡ (is_owned (remove xs at) h || is_in s.0 s.1 h)
owned_read xs at s is h l = subst (λ (r : Span). is_owned xs h ≡ (is_owned (remove xs at) h || is_in r.0 r.1 h)) (sym is) (owned-remove xs at s h l)
