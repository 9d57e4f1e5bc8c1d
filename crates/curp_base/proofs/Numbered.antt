-- Lists that are numbered from 1, where one item is set, and what a filter and a flattening keep.
use Rattle.std.proofs.Common.{◌≡◌, ◌≢◌, ◌⊎◌, inl, inr, ℕ, zero, suc, ◌+◌, ◌-◌, ◌<◌, ◌≤◌, Bool, true, List, [], ◌∷◌, ◌++◌, length, set, replicate, map, Some, refl, ap, sym, ◌∙◌, subst, arith, append-nil, append_assoc, add-one}
use Rattle.std.specs.List.{filter, list_any}
use Rattle.std.proofs.lemmas.Bool.{cases_Bool}
use Rattle.std.proofs.lemmas.List.{map-append}
use Rattle.curp_base.specs.Words.{At, numbered, numbers_from, all_of}
use Rattle.curp_base.proofs.Lists.{at_map, at_replicate, at_replicated, at_set_cases, at_set_other, at_set_same, at_some, at_within}

-- one item has a number
pub numbered_same : {A : Type 0} (xs : List A) (n : ℕ) (x y : A) → numbered xs n ≡ Some x → numbered xs n ≡ Some y → x ≡ y
numbered_same xs n x y h g = cc

-- an item that has a number stands one place before it
pub place : {A : Type 0} (xs : List A) (n : ℕ) (x : A) → numbered xs n ≡ Some x → (k : ℕ) × (n ≡ k + 1) × At xs k x
place xs zero x h = absurd cc
place xs (suc k) x h = (k, omega arith, h)

pub at_place : {A : Type 0} (xs : List A) (k n : ℕ) (x : A) → n ≡ k + 1 → At xs k x → numbered xs n ≡ Some x
at_place xs k zero x e h = absurd (omega arith)
at_place xs k (suc n) x e h = let same : k ≡ n = omega arith in subst (λ (i : ℕ). At xs i x) same h

set_at : {A : Type 0} (xs : List A) (n k : ℕ) (y : A) → n ≡ k + 1 → set xs (n - 1) y ≡ set xs k y
set_at xs n k y e = let same : n - 1 ≡ k = omega arith in ap (λ (i : ℕ). set xs i y) same

-- what has a number once one item is set
pub numbered_set_cases : {A : Type 0} (xs : List A) (n : ℕ) (old y : A) → numbered xs n ≡ Some old → (m : ℕ) (x : A) → numbered (set xs (n - 1) y) m ≡ Some x
    → ((m ≢ n) × (numbered xs m ≡ Some x)) ⊎ ((m ≡ n) × (y ≡ x))
numbered_set_cases {A} xs n old y here m x h =
    let p = place xs n old here in
    let q = place (set xs (n - 1) y) m x h in
    let g : At (set xs p.0 y) q.0 x = subst (λ (l : List A). At l q.0 x) (set_at xs n p.0 y p.1) q.2 in
    elim (at_set_cases xs p.0 y q.0 x g) [
      | inl o ↦ inl (omega (arith, q.1, p.1), at_place xs q.0 m x q.1 o.1)
      | inr o ↦ inr (omega (arith, q.1, p.1), o.1)
    ]

-- the item that is set
pub numbered_set_same : {A : Type 0} (xs : List A) (n : ℕ) (old y : A) → numbered xs n ≡ Some old → numbered (set xs (n - 1) y) n ≡ Some y
numbered_set_same {A} xs n old y here =
    let p = place xs n old here in
    at_place (set xs (n - 1) y) p.0 n y p.1 (subst (λ (l : List A). At l p.0 y) (sym (set_at xs n p.0 y p.1)) (at_set_same xs p.0 old y p.2))

-- the others
pub numbered_set_other : {A : Type 0} (xs : List A) (n : ℕ) (old y : A) → numbered xs n ≡ Some old → (m : ℕ) (x : A) → m ≢ n → numbered xs m ≡ Some x → numbered (set xs (n - 1) y) m ≡ Some x
numbered_set_other {A} xs n old y here m x ne h =
    let p = place xs n old here in
    let q = place xs m x h in
    at_place (set xs (n - 1) y) q.0 m x q.1 (subst (λ (l : List A). At l q.0 x) (sym (set_at xs n p.0 y p.1)) (at_set_other xs p.0 q.0 x y (omega (arith, q.1, p.1)) q.2))

-- all are that one
pub numbered_replicate : {A : Type 0} (count : ℕ) (x : A) (n : ℕ) (y : A) → numbered (replicate count x) n ≡ Some y → x ≡ y
numbered_replicate count x n y h = let p = place (replicate count x) n y h in (at_replicate count x p.0 y p.2).1

-- an item that an `any` finds
pub any_at : {A : Type 0} (p : A → Bool) (xs : List A) → list_any p xs ≡ true → (k : ℕ) × (x : A) × At xs k x × (p x ≡ true)
any_at p [] h = absurd cc
any_at p (x ∷ xs) h = elim (cases_Bool (p x)) [
  | inl y ↦ (0, x, refl, y)
  | inr n ↦ let r = any_at p xs (rw n at h) in (suc r.0, r.1, r.2, r.3)
]

kept_at : {A : Type 0} (x : A) (p : A → Bool) (y : A) (kept xs : List A) → ((k : ℕ) → At kept k x → (j : ℕ) × At xs j x × (p x ≡ true)) → p y ≡ true
    → (k : ℕ) → At (y ∷ kept) k x → (j : ℕ) × At (y ∷ xs) j x × (p x ≡ true)
kept_at x p y kept xs f t zero h = let same : y ≡ x = cc in (0, ap Some same, ap p (sym same) ∙ t)
kept_at x p y kept xs f t (suc k) h = let r = f k h in (suc r.0, r.1, r.2)

-- what a filter keeps stood in the list, and passes the test
pub filter_at : {A : Type 0} (p : A → Bool) (xs : List A) (k : ℕ) (x : A) → At (filter p xs) k x → (j : ℕ) × At xs j x × (p x ≡ true)
filter_at p [] k x h = absurd cc
filter_at {A} p (y ∷ xs) k x h = elim (cases_Bool (p y)) [
  | inl t ↦ kept_at x p y (filter p xs) xs (λ j g. filter_at p xs j x g) t k (rw t at h)
  | inr f ↦ let r = filter_at p xs k x (rw f at h) in (suc r.0, r.1, r.2)
]

-- one more list comes behind all
pub all_of-push : {A : Type 0} (lists : List (List A)) (xs : List A) → all_of (lists ++ xs ∷ []) ≡ all_of lists ++ xs
all_of-push [] xs = append-nil xs
all_of-push (ys ∷ rest) xs = ap (λ l. ys ++ l) (all_of-push rest xs) ∙ sym (append_assoc ys (all_of rest) xs)

-- ---- numbers from one on

-- where each stands
pub numbers_at : (first count k : ℕ) → k < count → At (numbers_from first count) k (first + k)
numbers_at first zero k low = absurd (omega arith)
numbers_at first (suc count) zero low = let e : first ≡ first + 0 = omega arith in ap (λ (n : ℕ). Some n) e
numbers_at first (suc count) (suc k) low =
    let e : (first + 1) + k ≡ first + suc k = omega arith in
    subst (λ (n : ℕ). At (numbers_from (first + 1) count) k n) e (numbers_at (first + 1) count k (omega arith))

-- what stands among numbers from one on
pub numbers_back : (first count k n : ℕ) → At (numbers_from first count) k n → (n ≡ first + k) × (k < count)
numbers_back first zero k n h = absurd cc
numbers_back first (suc count) zero n h = let e : first ≡ n = cc in (omega (arith, e), omega arith)
numbers_back first (suc count) (suc k) n h = let r = numbers_back (first + 1) count k n h in (omega (arith, r.0), omega (arith, r.1))

-- what has a number is one of as many
pub number_within : {A : Type 0} (xs : List A) (n : ℕ) (x : A) → numbered xs n ≡ Some x → (1 ≤ n) × (n ≤ length xs)
number_within xs n x h = let p = place xs n x h in let low = at_within xs p.0 x p.2 in (omega (arith, p.1), omega (arith, p.1, low))

pub length-numbers : (first count : ℕ) → length (numbers_from first count) ≡ count
length-numbers first zero = refl
length-numbers first (suc count) = ap suc (length-numbers (first + 1) count)

pub numbers_next : (n k : ℕ) → numbers_from n (suc k) ≡ numbers_from n k ++ (n + k) ∷ []
numbers_next n zero = ap (λ m. m ∷ []) (omega arith)
numbers_next n (suc k) =
    let last : (n + 1) + k ≡ n + suc k = omega arith in
    ap (λ (ms : List ℕ). n ∷ ms) (numbers_next (n + 1) k ∙ ap (λ (m : ℕ). numbers_from (n + 1) k ++ m ∷ []) last)

pub named_more : {A : Type 0} (f : ℕ → A) (n k : ℕ) → map f (numbers_from n (k + 1)) ≡ map f (numbers_from n k) ++ f (n + k) ∷ []
named_more f n k = ap (λ (count : ℕ). map f (numbers_from n count)) (add-one k) ∙ ap (map f) (numbers_next n k) ∙ map-append f (numbers_from n k) ((n + k) ∷ [])

pub numbered_some : {A : Type 0} (xs : List A) (n : ℕ) → 1 ≤ n → n ≤ length xs → (x : A) × (numbered xs n ≡ Some x)
numbered_some xs zero low high = absurd (omega arith)
numbered_some xs (suc k) low high = at_some xs k (omega arith)

pub numbered_replicated : {A : Type 0} (count : ℕ) (x : A) (n : ℕ) → 1 ≤ n → n ≤ count → numbered (replicate count x) n ≡ Some x
numbered_replicated count x zero low high = absurd (omega arith)
numbered_replicated count x (suc k) low high = at_replicated count x k (omega arith)

pub made_numbered : {A : Type 0} (f : ℕ → A) (count n : ℕ) → 1 ≤ n → n ≤ count → numbered (map f (numbers_from 1 count)) n ≡ Some (f n)
made_numbered f count zero low high = absurd (omega arith)
made_numbered f count (suc k) low high =
    let e : 1 + k ≡ suc k = omega arith in
    subst (λ (m : ℕ). At (map f (numbers_from 1 count)) k (f m)) e (at_map f (numbers_from 1 count) k (1 + k) (numbers_at 1 count k (omega arith)))
