-- What a range added to spans in ascending order makes of them, as the spans that it meets or touches are taken into it one by one.
use Rattle.std.proofs.Common.{◌≡◌, ℕ, zero, suc, ◌+◌, ◌-◌, ◌^◌, ◌<◌, ◌≤◌, min, max, Bool, ◌||◌, List, [], ◌∷◌, length, get_or, insert, remove, ap, sym, ◌∙◌, subst, arith}
use Rattle.std.proofs.lemmas.Bool.Decides.{nat_tests}
use Rattle.std.proofs.lemmas.List.Edits.{length-remove, get_or-remove_below, get_or-remove_above}
use Rattle.curp_range.specs.Spans.{Span, is_in, is_owned, AscendWithin, SpansAscend, AreSpansOf}
use Rattle.curp_range.proofs.Ascending.{ends, rise, owned_read, owned-insert, or_under}
use Rattle.curp_range.proofs.Cuts.{ascend-replaced}

-- so far the range has grown to first and last. The spans in front of the place lie apart from it, and those from there on reach it or lie behind
pub record IsJoining (old : List Span) (lo hi : ℕ) (spans : List Span) (at first last : ℕ) : Type 0 where
  pub ascend : SpansAscend spans
  pub within : at ≤ length spans
  pub ordered : first ≤ last
  pub below : last < 2 ^ 64
  pub apart : (k : ℕ) (d : Span) → k < at → (get_or spans k d).1 + 1 < first
  pub reach : (k : ℕ) (d : Span) → at ≤ k → k < length spans → first ≤ (get_or spans k d).1 + 1
  pub owned : (h : ℕ) → (is_owned spans h || is_in first last h) ≡ (is_owned old h || is_in lo hi h)

-- two ranges that meet or touch are one
pub united : (a b first last h : ℕ) → a ≤ b → first ≤ last → a ≤ last + 1 → first ≤ b + 1 → is_in (min first a) (max last b) h ≡ (is_in a b h || is_in first last h)
united a b first last h o q prefix back = grind (arith, nat_tests)

-- one more span is taken in
pub joining_more : (old xs : List Span) (lo hi at first last : ℕ) (s : Span) → IsJoining old lo hi xs at first last → at < length xs → s ≡ get_or xs at s → s.0 ≤ last + 1
    → IsJoining old lo hi (remove xs at) at (min first s.0) (max last s.1)
joining_more old xs lo hi at first last s j l is prefix = record {
  ascend = ascend-replaced 0 (2 ^ 64) xs at s [] j.ascend l tt;
  within = omega (arith, length-remove xs at l);
  ordered = omega (arith, j.ordered);
  below = omega (arith, order, j.below);
  apart = apart;
  reach = reach;
  owned = owned;
}
  where
    order : (s.0 ≤ s.1) × (s.1 < 2 ^ 64)
    order = subst (λ (r : Span). (r.0 ≤ r.1) × (r.1 < 2 ^ 64)) (sym is) (ends 0 (2 ^ 64) xs at s j.ascend l)

    start : s.0 ≡ (get_or xs at s).0
    start = ap (λ (r : Span). r.0) is

    back : first ≤ s.1 + 1
    back = subst (λ (r : Span). first ≤ r.1 + 1) (sym is) (j.reach at s (omega arith) l)

    near : (k : ℕ) (d : Span) → k < at → (get_or xs k d).1 + 2 ≤ (get_or xs at s).0
    near k d m = rise 0 (2 ^ 64) xs k at d s j.ascend m l

    apart : (k : ℕ) (d : Span) → k < at → (get_or (remove xs at) k d).1 + 1 < min first s.0
    apart k d m = rw (get_or-remove_below xs at d k m l) (omega (arith, j.apart k d m, start, subst (λ (r : Span). (get_or xs k d).1 + 2 ≤ r.0) (sym is) (near k d m)))

    reach : (k : ℕ) (d : Span) → at ≤ k → k < length (remove xs at) → min first s.0 ≤ (get_or (remove xs at) k d).1 + 1
    reach k d m n = rw (get_or-remove_above xs at d k m l) (omega (arith, j.reach (k + 1) d (omega arith) (omega (arith, length-remove xs at l))))

    owned : (h : ℕ) → (is_owned (remove xs at) h || is_in (min first s.0) (max last s.1) h) ≡ (is_owned old h || is_in lo hi h)
    owned h = or_under (is_owned (remove xs at) h) _ (is_in s.0 s.1 h) (is_in first last h) (united s.0 s.1 first last h order.0 j.ordered prefix back)
        ∙ ap (λ (b : Bool). b || is_in first last h) (sym (owned_read xs at s is h l)) ∙ j.owned h

ascend-insert : (f t : ℕ) (xs : List Span) (at first last : ℕ) (d : Span) → AscendWithin f t xs → at ≤ length xs → f ≤ first → first ≤ last → last < t
    → ((k : ℕ) (e : Span) → k < at → (get_or xs k e).1 + 1 < first) → (at < length xs → last + 1 < (get_or xs at d).0) → AscendWithin f t (insert xs at (first, last))
ascend-insert f t [] zero first last d a w l o u apart next = (l, o, u, tt)
ascend-insert f t [] (suc at) first last d a w l o u apart next = absurd (omega arith)
ascend-insert f t (s ∷ xs) zero first last d a w l o u apart next = (l, o, u, (omega (arith, next (omega arith)), a.1, a.2, a.3))
ascend-insert f t (s ∷ xs) (suc at) first last d a w l o u apart next =
    (a.0, a.1, a.2, ascend-insert (s.1 + 2) t xs at first last d a.3 (omega arith) (omega (arith, apart 0 d (omega arith))) o u (λ k e m. apart (suc k) e (omega arith)) (λ m. next (omega arith)))

-- the new spans are those of what the old ones own beside the range
abbrev pub IsJoined : List Span → ℕ → ℕ → List Span → Type 0
IsJoined old lo hi new = AreSpansOf (λ h. is_owned old h || is_in lo hi h) new

-- the next span lies apart, and the range that has grown is put in front of it
pub joining_all : (old xs : List Span) (lo hi at first last : ℕ) (d : Span) → IsJoining old lo hi xs at first last → (at < length xs → last + 1 < (get_or xs at d).0) → IsJoined old lo hi (insert xs at (first, last))
joining_all old xs lo hi at first last d j next = record {
  ascend = ascend-insert 0 (2 ^ 64) xs at first last d j.ascend j.within (omega arith) j.ordered j.below j.apart next;
  owned = λ h. owned-insert xs at (first, last) h ∙ j.owned h;
}
