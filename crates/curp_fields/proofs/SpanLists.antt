-- Spans that are read one behind the other ascend and don't touch.
use Rattle.std.proofs.Common.{◌≡◌, ℕ, ◌+◌, ◌<◌, ◌≤◌, ◌^◌, true, cond, ltb, Option, Some, None, List, [], ◌∷◌, ◌++◌, refl, sym, ap, subst, ◌∙◌, arith, inl, inr}
use Rattle.std.proofs.lemmas.Bool.{cases_lt, le-leb, leb-true, lt-ltb}
use Rattle.std.specs.Option.{SomeIff}
use Rattle.curp_base.specs.Words.{last_of}
use Rattle.curp_items.specs.Format.{Format, ◌▸◌}
use Rattle.curp_items.specs.Items.{u64}
use Rattle.curp_range.specs.Spans.{AscendWithin, Span, SpansAscend, with_range}
use Rattle.curp_fields.specs.Fields.{IsLeast, least_after, span_from}

-- the least first hash of a span behind these, of which the first may begin at f
abbrev pub least_from : ℕ → List Span → ℕ
least_from f [] = f
least_from f (s ∷ rest) = least_from (s.1 + 2) rest

least_rises : (f t : ℕ) (xs : List Span) → AscendWithin f t xs → f ≤ least_from f xs
least_rises f t [] a = omega arith
least_rises f t (s ∷ rest) a =
    let more : s.1 + 2 ≤ least_from (s.1 + 2) rest = least_rises (s.1 + 2) t rest a.3 in
    let one : f ≤ s.0 = a.0 in
    let two : s.0 ≤ s.1 = a.1 in
    omega arith

least_last : (f : ℕ) (s : Span) (rest : List Span) → least_from f (s ∷ rest) ≡ least_after (last_of (s ∷ rest))
least_last f s [] = refl
least_last f s (r ∷ rest) = least_last (s.1 + 2) r rest

pub least_is : (xs : List Span) → least_from 0 xs ≡ least_after (last_of xs)
least_is [] = refl
least_is (s ∷ rest) = least_last 0 s rest

within-push : (f t : ℕ) (xs : List Span) (s : Span) → AscendWithin f t xs → least_from f xs ≤ s.0 → s.0 ≤ s.1 → s.1 < t → AscendWithin f t (xs ++ s ∷ [])
within-push f t [] s a l o b = (l, o, b, tt)
within-push f t (x ∷ xs) s a l o b = (a.0, a.1, a.2, within-push (x.1 + 2) t xs s a.3 l o b)

pub spans-push : (xs : List Span) (s : Span) → SpansAscend xs → least_after (last_of xs) ≤ s.0 → s.0 ≤ s.1 → s.1 < 2 ^ 64 → SpansAscend (xs ++ s ∷ [])
spans-push xs s a l o b = within-push 0 (2 ^ 64) xs s a (subst (λ (n : ℕ). n ≤ s.0) (sym (least_is xs)) l) o b

within-prefix : (f t : ℕ) (xs ys : List Span) → AscendWithin f t (xs ++ ys) → AscendWithin f t xs
within-prefix f t [] ys a = tt
within-prefix f t (x ∷ xs) ys a = (a.0, a.1, a.2, within-prefix (x.1 + 2) t xs ys a.3)

pub spans-prefix : (xs ys : List Span) → SpansAscend (xs ++ ys) → SpansAscend xs
spans-prefix xs ys a = within-prefix 0 (2 ^ 64) xs ys a

within-last : (f t : ℕ) (xs : List Span) (s : Span) → AscendWithin f t (xs ++ s ∷ []) → (least_from f xs ≤ s.0) × (s.0 ≤ s.1) × (s.1 < t)
within-last f t [] s a = (a.0, a.1, a.2)
within-last f t (x ∷ xs) s a = within-last (x.1 + 2) t xs s a.3

pub spans-last : (xs : List Span) (s : Span) → SpansAscend (xs ++ s ∷ []) → (least_after (last_of xs) ≤ s.0) × (s.0 ≤ s.1) × (s.1 < 2 ^ 64)
spans-last xs s a =
    let l = within-last 0 (2 ^ 64) xs s a in
    (subst (λ (n : ℕ). n ≤ s.0) (least_is xs) l.0, l.1, l.2)

-- such a span comes behind the others, as one of its own
joined_last : (f t : ℕ) (xs : List Span) (lo hi : ℕ) → AscendWithin f t xs → least_from f xs ≤ lo → with_range xs lo hi ≡ xs ++ (lo, hi) ∷ []
joined_last f t [] lo hi a l = refl
joined_last f t (s ∷ rest) lo hi a l =
    let more : s.1 + 2 ≤ least_from (s.1 + 2) rest = least_rises (s.1 + 2) t rest a.3 in
    let apart : ltb (s.1 + 1) lo ≡ true = lt-ltb (s.1 + 1) lo (omega arith) in
    rw apart (ap (λ (r : List Span). s ∷ r) (joined_last (s.1 + 2) t rest lo hi a.3 l))

pub with_last : (xs : List Span) (lo hi : ℕ) → SpansAscend xs → least_after (last_of xs) ≤ lo → with_range xs lo hi ≡ xs ++ (lo, hi) ∷ []
with_last xs lo hi a l = joined_last 0 (2 ^ 64) xs lo hi a (subst (λ (n : ℕ). n ≤ lo) (sym (least_is xs)) l)

-- the sum that is kept where it has 64 bits
pub least_kept : (o : Option ℕ) (hi : ℕ) → SomeIff o (hi + 2 < 2 ^ 64) (hi + 2) → IsLeast o (hi + 2)
least_kept None hi past = elim (cases_lt (hi + 2) (2 ^ 64)) [ inl l ↦ absurd (past l) | inr l ↦ l ]
least_kept (Some least) hi sum = sum.1
