-- A mark that comes between others.
use Rattle.std.proofs.Common.{◌≡◌, ◌⊎◌, ◌<◌, ◌≤◌, inl, inr, ℕ, zero, suc, Bool, true, false, cond, List, [], ◌∷◌, take, length, refl, ap, ◌∙◌, arith, ◌++◌}
use Rattle.std.specs.List.{filter}
use Rattle.curp_base.specs.Words.{At}
use Rattle.curp_model.specs.Marks.{Mark, cuts_at, put_at}
use Rattle.std.proofs.lemmas.Bool.{cases_Bool}
use Rattle.curp_law_linear.specs.Moves.{put_before}

-- where an item stood that stands at a place now
abbrev pub Was : ℕ → ℕ → ℕ → Type 0
Was c k j = ((k < c) × (j ≡ k)) ⊎ ((c < k) × (k ≡ suc j))

module _ (q : Mark) where
  -- each item was there before, or is the one that came
  pub put_cases : (c : ℕ) (xs : List Mark) (k : ℕ) (x : Mark) → At (put_before c q xs) k x → ((j : ℕ) × Was c k j × At xs j x) ⊎ ((q ≡ x) × (k ≤ c))
  put_cases zero xs zero x h = inr (cc, omega arith)
  put_cases zero xs (suc k) x h = inl (k, inr (omega arith, refl), h)
  put_cases (suc c) [] zero x h = inr (cc, omega arith)
  put_cases (suc c) [] (suc k) x h = absurd cc
  put_cases (suc c) (y ∷ xs) zero x h = inl (0, inl (omega arith, refl), h)
  put_cases (suc c) (y ∷ xs) (suc k) x h = elim (put_cases c xs k x h) [
    | inl old ↦ inl (suc old.0, later c k old.0 old.1, old.2)
    | inr new ↦ inr (new.0, omega (arith, new.1))
  ]
    where
      later : (c k j : ℕ) → Was c k j → Was (suc c) (suc k) (suc j)
      later c k j (inl w) = inl (omega (arith, w.0), omega (arith, w.1))
      later c k j (inr w) = inr (omega (arith, w.0), omega (arith, w.1))

  -- which stands at its place
  pub put_exact : (c : ℕ) (xs : List Mark) → c ≤ length xs → (k : ℕ) (x : Mark) → At (put_before c q xs) k x → ((j : ℕ) × Was c k j × At xs j x) ⊎ ((q ≡ x) × (k ≡ c))
  put_exact zero xs low zero x h = inr (cc, refl)
  put_exact zero xs low (suc k) x h = inl (k, inr (omega arith, refl), h)
  put_exact (suc c) [] low k x h = absurd (omega (arith, low))
  put_exact (suc c) (y ∷ xs) low zero x h = inl (0, inl (omega arith, refl), h)
  put_exact (suc c) (y ∷ xs) low (suc k) x h = elim (put_exact c xs (omega (arith, low)) k x h) [
    | inl old ↦ inl (suc old.0, later c k old.0 old.1, old.2)
    | inr new ↦ inr (new.0, ap suc new.1)
  ]
    where
      later : (c k j : ℕ) → Was c k j → Was (suc c) (suc k) (suc j)
      later c k j (inl w) = inl (omega (arith, w.0), omega (arith, w.1))
      later c k j (inr w) = inr (omega (arith, w.0), omega (arith, w.1))

  -- and stands somewhere now
  pub put_stands : (c : ℕ) (xs : List Mark) (j : ℕ) (x : Mark) → c ≤ length xs → At xs j x → (k : ℕ) × Was c k j × At (put_before c q xs) k x
  put_stands zero xs j x low h = (suc j, inr (omega arith, refl), h)
  put_stands (suc c) [] j x low h = absurd cc
  put_stands (suc c) (y ∷ xs) zero x low h = (0, inl (omega arith, refl), h)
  put_stands (suc c) (y ∷ xs) (suc j) x low h = later (put_stands c xs j x (omega (arith, low)) h)
    where
      later : (k : ℕ) × Was c k j × At (put_before c q xs) k x → (k : ℕ) × Was (suc c) k (suc j) × At (put_before (suc c) q (y ∷ xs)) k x
      later (k, inl w, g) = (suc k, inl (omega (arith, w.0), omega (arith, w.1)), g)
      later (k, inr w, g) = (suc k, inr (omega (arith, w.0), omega (arith, w.1)), g)

  -- the one that came
  pub put_here : (c : ℕ) (xs : List Mark) → c ≤ length xs → At (put_before c q xs) c q
  put_here zero xs low = refl
  put_here (suc c) [] low = absurd (omega (arith, low))
  put_here (suc c) (y ∷ xs) low = put_here c xs (omega (arith, low))

  -- what doesn't pass a test changes nothing of what passes it
  pub put_filter : (p : Mark → Bool) → p q ≡ false → (c : ℕ) (xs : List Mark) → filter p (put_before c q xs) ≡ filter p xs
  put_filter p out zero xs = ap (λ (b : Bool). cond b (q ∷ filter p xs) (filter p xs)) out
  put_filter p out (suc c) [] = ap (λ (b : Bool). cond b (q ∷ []) []) out
  put_filter p out (suc c) (y ∷ xs) = ap (λ (l : List Mark). cond (p y) (y ∷ l) l) (put_filter p out c xs)

  -- what stands before an item: as before, or with the one that came
  pub put_prefix : (c k j : ℕ) → Was c k j → (xs : List Mark) → (p : Mark → Bool) → p q ≡ false → filter p (take k (put_before c q xs)) ≡ filter p (take j xs)
  put_prefix zero zero j w xs p out = absurd (no w)
    where
      no : Was 0 0 j → ⊥
      no (inl v) = omega (arith, v.0)
      no (inr v) = omega (arith, v.0)
  put_prefix zero (suc k) j w xs p out = ap (λ (b : Bool). cond b (q ∷ filter p (take k xs)) (filter p (take k xs))) out ∙ ap (λ (n : ℕ). filter p (take n xs)) (same w)
    where
      same : Was 0 (suc k) j → k ≡ j
      same (inl v) = absurd (omega (arith, v.0))
      same (inr v) = omega (arith, v.1)
  put_prefix (suc c) zero zero w xs p out = refl
  put_prefix (suc c) zero (suc j) w xs p out = absurd (no w)
    where
      no : Was (suc c) 0 (suc j) → ⊥
      no (inl v) = omega (arith, v.1)
      no (inr v) = omega (arith, v.0)
  put_prefix (suc c) (suc k) zero w [] p out = none w k
    where
      none : Was (suc c) (suc k) 0 → (k : ℕ) → filter p (take (suc k) (q ∷ [])) ≡ []
      none w zero = ap (λ (b : Bool). cond b (q ∷ []) []) out
      none w (suc k) = ap (λ (b : Bool). cond b (q ∷ []) []) out
  put_prefix (suc c) (suc k) (suc j) w [] p out = none k
    where
      none : (k : ℕ) → filter p (take (suc k) (q ∷ [])) ≡ []
      none zero = ap (λ (b : Bool). cond b (q ∷ []) []) out
      none (suc k) = ap (λ (b : Bool). cond b (q ∷ []) []) out
  put_prefix (suc c) (suc k) zero w (y ∷ xs) p out = absurd (no w)
    where
      no : Was (suc c) (suc k) 0 → ⊥
      no (inl v) = omega (arith, v.1)
      no (inr v) = omega (arith, v.0, v.1)
  put_prefix (suc c) (suc k) (suc j) w (y ∷ xs) p out = ap (λ (l : List Mark). cond (p y) (y ∷ l) l) (put_prefix c k j (earlier w) xs p out)
    where
      earlier : Was (suc c) (suc k) (suc j) → Was c k j
      earlier (inl v) = inl (omega (arith, v.0), omega (arith, v.1))
      earlier (inr v) = inr (omega (arith, v.0), omega (arith, v.1))

  -- and before the one that came
  pub put_before_it : (c : ℕ) (xs : List Mark) → c ≤ length xs → take c (put_before c q xs) ≡ take c xs
  put_before_it zero xs low = refl
  put_before_it (suc c) [] low = absurd (omega (arith, low))
  put_before_it (suc c) (y ∷ xs) low = ap (λ (l : List Mark). y ∷ l) (put_before_it c xs (omega (arith, low)))

-- ---- the order of places

-- two places stay in their order
pub was_order : (c k l j i : ℕ) → Was c k j → Was c l i → k < l → j < i
was_order c k l j i (inl v) (inl w) lt = omega (arith, lt, v.1, w.1)
was_order c k l j i (inl v) (inr w) lt = omega (arith, lt, v.0, v.1, w.0, w.1)
was_order c k l j i (inr v) (inl w) lt = absurd (omega (arith, lt, v.0, w.0))
was_order c k l j i (inr v) (inr w) lt = omega (arith, lt, v.1, w.1)

-- and come from two
pub was_same : (c k l j i : ℕ) → Was c k j → Was c l i → j ≡ i → k ≡ l
was_same c k l j i (inl v) (inl w) e = omega (arith, e, v.1, w.1)
was_same c k l j i (inl v) (inr w) e = absurd (omega (arith, e, v.0, v.1, w.0, w.1))
was_same c k l j i (inr v) (inl w) e = absurd (omega (arith, e, v.0, v.1, w.0, w.1))
was_same c k l j i (inr v) (inr w) e = omega (arith, e, v.1, w.1)

-- what stood before the place still does, and what stood behind it
pub was_low : (c k j : ℕ) → Was c k j → k < c → j < c
was_low c k j (inl v) lt = omega (arith, v.1, lt)
was_low c k j (inr v) lt = absurd (omega (arith, v.0, lt))

pub was_behind : (c k j : ℕ) → Was c k j → c < k → c ≤ j
was_behind c k j (inl v) lt = absurd (omega (arith, v.0, lt))
was_behind c k j (inr v) lt = omega (arith, v.1, lt)

-- ---- by the number of an adoption

-- where one mark alone is that of the adoption, to come before it is to come before its place
pub put_at_is : (part number : ℕ) (q : Mark) (marks : List Mark) (place : ℕ) (m : Mark) → At marks place m → cuts_at part number m ≡ true
    → ((k : ℕ) (o : Mark) → At marks k o → cuts_at part number o ≡ true → k ≡ place) → put_at part number q marks ≡ put_before place q marks
put_at_is part number q [] place m h y only = absurd cc
put_at_is part number q (z ∷ marks) zero m h y only =
    let same : z ≡ m = cc in
    ap (λ (b : Bool). cond b (q ∷ z ∷ marks) (z ∷ put_at part number q marks)) (ap (cuts_at part number) same ∙ y)
put_at_is part number q (z ∷ marks) (suc place) m h y only =
    ap (λ (b : Bool). cond b (q ∷ z ∷ marks) (z ∷ put_at part number q marks)) no
    ∙ ap (λ (l : List Mark). z ∷ l) (put_at_is part number q marks place m h y (λ k o g t. let e = only (suc k) o g t in omega (arith, e)))
  where
    no : cuts_at part number z ≡ false
    no = elim (cases_Bool (cuts_at part number z)) [
      | inl t ↦ absurd (let e = only 0 z refl t in omega (arith, e))
      | inr n ↦ n
    ]

-- where no mark is that of the adoption, it comes to the end
pub put_at_end : (part number : ℕ) (q : Mark) (marks : List Mark) → ((k : ℕ) (o : Mark) → At marks k o → cuts_at part number o ≡ true → ⊥) → put_at part number q marks ≡ marks ++ q ∷ []
put_at_end part number q [] none = refl
put_at_end part number q (z ∷ marks) none =
    ap (λ (b : Bool). cond b (q ∷ z ∷ marks) (z ∷ put_at part number q marks)) no ∙ ap (λ (l : List Mark). z ∷ l) (put_at_end part number q marks (λ k o g t. none (suc k) o g t))
  where
    no : cuts_at part number z ≡ false
    no = elim (cases_Bool (cuts_at part number z)) [
      | inl t ↦ absurd (none 0 z refl t)
      | inr n ↦ n
    ]
