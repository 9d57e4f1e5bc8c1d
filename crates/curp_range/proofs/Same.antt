-- Spans that own the same hashes are the same.
use Rattle.std.proofs.Common.{◌≡◌, ℕ, ◌+◌, ◌≤◌, true, false, inl, inr, List, [], ◌∷◌, refl, sym, ◌∙◌, subst, arith}
use Rattle.std.proofs.lemmas.Bool.{cases_lt}
use Rattle.curp_range.specs.Spans.{Span, is_owned, AscendWithin}
use Rattle.curp_range.proofs.Ascending.{in_range, above_range, from_first, none_below}

abbrev Same : List Span → List Span → Type 0
Same xs ys = (h : ℕ) → is_owned xs h ≡ is_owned ys h

owned_head : (s : Span) (xs : List Span) (h : ℕ) → s.0 ≤ h → h ≤ s.1 → is_owned (s ∷ xs) h ≡ true
owned_head s xs h l u = rw (in_range s.0 s.1 h l u) refl

-- a list owns the hash after its first span's last one no more
none_after : (f t : ℕ) (s : Span) (xs : List Span) → AscendWithin f t (s ∷ xs) → is_owned (s ∷ xs) (s.1 + 1) ≡ false
none_after f t s xs a = rw (above_range s.0 s.1 (s.1 + 1) (omega arith)) (none_below (s.1 + 2) t xs (s.1 + 1) a.3 (omega arith))

not_empty : (f t : ℕ) (s : Span) (xs : List Span) → AscendWithin f t (s ∷ xs) → Same [] (s ∷ xs) → ⊥
not_empty f t s xs a e = cc (e s.0, owned_head s xs s.0 (omega arith) a.1)

first_at_least : (f t : ℕ) (x y : Span) (xs ys : List Span) → AscendWithin f t (x ∷ xs) → AscendWithin f t (y ∷ ys) → Same (x ∷ xs) (y ∷ ys) → y.0 ≤ x.0
first_at_least f t x y xs ys a b e = elim (cases_lt x.0 y.0) [
  | inl l ↦ absurd (cc (e x.0, owned_head x xs x.0 (omega arith) a.1, none_below y.0 t (y ∷ ys) x.0 (from_first f t y ys b) l))
  | inr l ↦ l
]

last_at_least : (f t : ℕ) (x y : Span) (xs ys : List Span) → x.0 ≡ y.0 → AscendWithin f t (x ∷ xs) → AscendWithin f t (y ∷ ys) → Same (x ∷ xs) (y ∷ ys) → y.1 ≤ x.1
last_at_least f t x y xs ys first a b e = elim (cases_lt x.1 y.1) [
  | inl l ↦ absurd (cc (e (x.1 + 1), none_after f t x xs a, owned_head y ys (x.1 + 1) (omega (arith, a.1)) (omega arith)))
  | inr l ↦ l
]

rest_same : (t : ℕ) (x y : Span) (xs ys : List Span) → x.1 ≡ y.1 → AscendWithin (x.1 + 2) t xs → AscendWithin (y.1 + 2) t ys → Same (x ∷ xs) (y ∷ ys) → Same xs ys
rest_same t x y xs ys last a b e h = elim (cases_lt x.1 h) [
  | inl l ↦ rw (above_range x.0 x.1 h l, above_range y.0 y.1 h (omega arith)) at (e h)
  | inr l ↦ none_below (x.1 + 2) t xs h a (omega arith) ∙ sym (none_below (y.1 + 2) t ys h b (omega arith))
]

same_cons : (x y : Span) (xs ys : List Span) → x.0 ≡ y.0 → x.1 ≡ y.1 → xs ≡ ys → x ∷ xs ≡ y ∷ ys
same_cons (x0, x1) (y0, y1) xs ys first last e = cc

pub same_within : (f t : ℕ) (xs ys : List Span) → AscendWithin f t xs → AscendWithin f t ys → Same xs ys → xs ≡ ys
same_within f t [] [] a b e = refl
same_within f t [] (y ∷ ys) a b e = absurd (not_empty f t y ys b e)
same_within f t (x ∷ xs) [] a b e = absurd (not_empty f t x xs a (λ h. sym (e h)))
same_within f t (x ∷ xs) (y ∷ ys) a b e =
    let back : Same (y ∷ ys) (x ∷ xs) = λ h. sym (e h) in
    let first : x.0 ≡ y.0 = omega (arith, first_at_least f t x y xs ys a b e, first_at_least f t y x ys xs b a back) in
    let last : x.1 ≡ y.1 = omega (arith, last_at_least f t x y xs ys first a b e, last_at_least f t y x ys xs (sym first) b a back) in
    let behind : AscendWithin (x.1 + 2) t ys = subst (λ (n : ℕ). AscendWithin (n + 2) t ys) (sym last) b.3 in
    same_cons x y xs ys first last (same_within (x.1 + 2) t xs ys a.3 behind (rest_same t x y xs ys last a.3 b.3 e))
