-- What stays of a list as a test picks from it.
use Rattle.std.proofs.Common.{◌≡◌, ℕ, zero, suc, ◌<◌, Bool, true, false, cond, List, [], ◌∷◌, length, get_or, set, Some, ap, ◌∙◌, arith}
use Rattle.std.specs.List.{AllByRecursion, IsDistinct, filter, swap}
use Rattle.std.specs.List.Sorted.{IsPermutation}
use Rattle.std.proofs.lemmas.List.Sorted.{IsPermutation-refl, IsPermutation-trans, IsPermutation-cons, IsPermutation-middle, IsPermutation-keeps}
use Rattle.curp_base.specs.Words.{At}

-- two items of a list in each other's place
abbrev pub exchanged : {A : Type 0} → List A → ℕ → ℕ → A → List A
exchanged l i j d = set (set l i (get_or l j d)) j (get_or l i d)

module _ {A : Type 0} (p : A → Bool) where
  -- ---- an item that passes stays

  pub filter_at : (xs : List A) (k : ℕ) (x : A) → At xs k x → p x ≡ true → (j : ℕ) × At (filter p xs) j x
  filter_at [] k x h passes = absurd cc
  filter_at (y ∷ xs) zero x h passes =
      let same : y ≡ x = cc in
      (0, go (p y) (ap p same ∙ passes) same)
    where
      go : (b : Bool) → b ≡ true → y ≡ x → At (cond b (y ∷ filter p xs) (filter p xs)) 0 x
      go true e same = ap (λ (z : A). Some z) same
      go false e same = absurd cc
  filter_at (y ∷ xs) (suc k) x h passes = go (p y) (filter_at xs k x h passes)
    where
      go : (b : Bool) → (j : ℕ) × At (filter p xs) j x → (j : ℕ) × At (cond b (y ∷ filter p xs) (filter p xs)) j x
      go true m = (suc m.0, m.1)
      go false m = m

  -- ---- what is apart stays apart

  filter_all : (P : A → Type 0) (xs : List A) → AllByRecursion P xs → AllByRecursion P (filter p xs)
  filter_all P [] all = tt
  filter_all P (x ∷ xs) all = go (p x) (filter_all P xs all.1)
    where
      go : (b : Bool) → AllByRecursion P (filter p xs) → AllByRecursion P (cond b (x ∷ filter p xs) (filter p xs))
      go true rest = (all.0, rest)
      go false rest = rest

  pub filter_apart : (e : A → A → Bool) (xs : List A) → IsDistinct e xs → IsDistinct e (filter p xs)
  unfolding IsDistinct
  filter_apart e [] apart = tt
  filter_apart e (x ∷ xs) apart = go (p x) (filter_all (λ y. e x y ≡ false) xs apart.0) (filter_apart e xs apart.1)
    where
      go : (b : Bool) → AllByRecursion (λ y. e x y ≡ false) (filter p xs) → IsDistinct e (filter p xs) → IsDistinct e (cond b (x ∷ filter p xs) (filter p xs))
      go true first rest = (first, rest)
      go false first rest = rest

  -- ---- rearranged lists stay so

  under : (x : A) (xs ys : List A) → IsPermutation (filter p xs) (filter p ys) → IsPermutation (filter p (x ∷ xs)) (filter p (x ∷ ys))
  under x xs ys same = go (p x)
    where
      go : (b : Bool) → IsPermutation (cond b (x ∷ filter p xs) (filter p xs)) (cond b (x ∷ filter p ys) (filter p ys))
      go true = IsPermutation-cons x (filter p xs) (filter p ys) same
      go false = same

  two : (x y : A) (xs : List A) → IsPermutation (filter p (x ∷ y ∷ xs)) (filter p (y ∷ x ∷ xs))
  two x y xs = go (p x) (p y)
    where
      go : (b c : Bool) → IsPermutation (cond b (x ∷ cond c (y ∷ filter p xs) (filter p xs)) (cond c (y ∷ filter p xs) (filter p xs))) (cond c (y ∷ cond b (x ∷ filter p xs) (filter p xs)) (cond b (x ∷ filter p xs) (filter p xs)))
      go true true = IsPermutation-middle (x ∷ []) y (filter p xs)
      go true false = IsPermutation-refl (x ∷ filter p xs)
      go false true = IsPermutation-refl (y ∷ filter p xs)
      go false false = IsPermutation-refl (filter p xs)

  -- the first and a later one in each other's place
  first_filtered : (xs : List A) (j : ℕ) (x d : A) → j < length xs → IsPermutation (filter p (x ∷ xs)) (filter p (get_or xs j d ∷ set xs j x))
  first_filtered [] j x d within = absurd (omega arith)
  first_filtered (y ∷ xs) zero x d within = two x y xs
  first_filtered (z ∷ xs) (suc j) x d within =
      let y : A = get_or xs j d in
      IsPermutation-trans (filter p (x ∷ z ∷ xs)) (filter p (z ∷ x ∷ xs)) (filter p (y ∷ z ∷ set xs j x)) (two x z xs)
      (IsPermutation-trans (filter p (z ∷ x ∷ xs)) (filter p (z ∷ y ∷ set xs j x)) (filter p (y ∷ z ∷ set xs j x))
      (under z (x ∷ xs) (y ∷ set xs j x) (first_filtered xs j x d (omega arith))) (two z y (set xs j x)))

  exchanged_filtered : (xs : List A) (i j : ℕ) (d : A) → i < length xs → j < length xs → IsPermutation (filter p xs) (filter p (exchanged xs i j d))
  exchanged_filtered [] i j d below_i below_j = absurd (omega arith)
  exchanged_filtered (x ∷ xs) zero zero d below_i below_j = IsPermutation-refl (filter p (x ∷ xs))
  exchanged_filtered (x ∷ xs) zero (suc j) d below_i below_j = first_filtered xs j x d (omega arith)
  exchanged_filtered (x ∷ xs) (suc i) zero d below_i below_j = first_filtered xs i x d (omega arith)
  exchanged_filtered (x ∷ xs) (suc i) (suc j) d below_i below_j = under x xs (exchanged xs i j d) (exchanged_filtered xs i j d (omega arith) (omega arith))

  swap_filtered : (xs : List A) (i j : ℕ) → i < length xs → j < length xs → IsPermutation (filter p xs) (filter p (swap xs i j))
  swap_filtered [] i j below_i below_j = IsPermutation-refl []
  swap_filtered (x ∷ xs) i j below_i below_j = exchanged_filtered (x ∷ xs) i j x below_i below_j

  pub filter_permutation : (xs ys : List A) → IsPermutation xs ys → IsPermutation (filter p xs) (filter p ys)
  filter_permutation xs = IsPermutation-keeps xs (λ (l : List A). IsPermutation (filter p xs) (filter p l)) (IsPermutation-refl (filter p xs))
      (λ l i j below_i below_j h. IsPermutation-trans (filter p xs) (filter p l) (filter p (swap l i j)) h (swap_filtered l i j below_i below_j))
