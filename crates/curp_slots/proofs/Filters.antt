-- What is left of lists.
use Rattle.std.proofs.Common.{◌≡◌, ◌+◌, ◌&&◌, Bool, true, false, cond, not, List, [], ◌∷◌, length, map, refl, ap, arith}
use Rattle.std.specs.List.{filter}

-- first by one test, then by another
pub filter_both : {A : Type 0} (p q : A → Bool) (xs : List A) → filter p (filter q xs) ≡ filter (λ x. q x && p x) xs
filter_both p q [] = refl
filter_both p q (x ∷ xs) = go (q x) (p x) refl (filter_both p q xs)
  where
    go : (a b : Bool) → p x ≡ b → filter p (filter q xs) ≡ filter (λ x. q x && p x) xs
        → filter p (cond a (x ∷ filter q xs) (filter q xs)) ≡ cond (a && b) (x ∷ filter (λ x. q x && p x) xs) (filter (λ x. q x && p x) xs)
    go true true e rest = rw e (ap (λ ys. x ∷ ys) rest)
    go true false e rest = rw e rest
    go false b e rest = rest

pub filter_all : {A : Type 0} (xs : List A) → filter (λ x. true) xs ≡ xs
filter_all [] = refl
filter_all (x ∷ xs) = ap (λ ys. x ∷ ys) (filter_all xs)

-- by a test of what a function gives
pub map_filter : {A B : Type 0} (f : A → B) (p : B → Bool) (q : A → Bool) → ((x : A) → q x ≡ p (f x)) → (xs : List A) → map f (filter q xs) ≡ filter p (map f xs)
map_filter f p q same [] = refl
map_filter f p q same (x ∷ xs) = rw (same x) (go (p (f x)) (map_filter f p q same xs))
  where
    go : (b : Bool) → map f (filter q xs) ≡ filter p (map f xs) → map f (cond b (x ∷ filter q xs) (filter q xs)) ≡ cond b (f x ∷ filter p (map f xs)) (filter p (map f xs))
    go true rest = ap (λ ys. f x ∷ ys) rest
    go false rest = rest

-- what passes a test, of those that pass another and of those that do not
pub counted_apart : {A : Type 0} (p q : A → Bool) (xs : List A) → length (filter p (filter q xs)) + length (filter p (filter (λ x. not (q x)) xs)) ≡ length (filter p xs)
counted_apart p q [] = refl
counted_apart p q (x ∷ xs) = go (q x) (p x) refl (counted_apart p q xs)
  where
    go : (a b : Bool) → p x ≡ b → length (filter p (filter q xs)) + length (filter p (filter (λ x. not (q x)) xs)) ≡ length (filter p xs)
        → length (filter p (cond a (x ∷ filter q xs) (filter q xs))) + length (filter p (cond (not a) (x ∷ filter (λ x. not (q x)) xs) (filter (λ x. not (q x)) xs))) ≡ length (cond b (x ∷ filter p xs) (filter p xs))
    go true true e rest = rw e (omega (arith, rest))
    go true false e rest = rw e rest
    go false true e rest = rw e (omega (arith, rest))
    go false false e rest = rw e rest
