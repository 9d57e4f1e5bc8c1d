-- One more item of those whose messages are put together, or of which the first answer counts.
use Rattle.std.proofs.Common.{◌≡◌, ◌<◌, ℕ, zero, suc, ◌+◌, List, [], ◌∷◌, ◌++◌, length, get_or, take, map, Option, Some, None, refl, ap, sym, ◌∙◌, arith}
use Rattle.std.proofs.lemmas.List.{take_more}
use Rattle.curp_base.specs.Cases.{first_there}

next_one : {A : Type 0} (xs : List A) (k : ℕ) (x : A) → k < length xs → x ≡ get_or xs k x → take (k + 1) xs ≡ take k xs ++ x ∷ []
next_one {A = A} xs k x within here = take_more xs k x within ∙ ap (λ (y : A). take k xs ++ y ∷ []) (sym here)

after_none : {A B : Type 0} (f : A → Option B) (xs ys : List A) → first_there (map f xs) ≡ None → first_there (map f (xs ++ ys)) ≡ first_there (map f ys)
after_none f [] ys none = refl
after_none {B = B} f (x ∷ xs) ys none = go (f x) none (λ n. after_none f xs ys n)
  where
    go : (o : Option B) → first_there (o ∷ map f xs) ≡ None → (first_there (map f xs) ≡ None → first_there (map f (xs ++ ys)) ≡ first_there (map f ys))
        → first_there (o ∷ map f (xs ++ ys)) ≡ first_there (map f ys)
    go None n rest = rest n
    go (Some y) n rest = absurd cc

-- none among one more
pub none_more : {A B : Type 0} (f : A → Option B) (xs : List A) (k : ℕ) (x : A) → k < length xs → x ≡ get_or xs k x
    → first_there (map f (take k xs)) ≡ None → f x ≡ None → first_there (map f (take (k + 1) xs)) ≡ None
none_more {A = A} {B = B} f xs k x within here none last =
    ap (λ (ys : List A). first_there (map f ys)) (next_one xs k x within here) ∙ after_none f (take k xs) (x ∷ []) none ∙ ap (λ (o : Option B). first_there (o ∷ [])) last

-- the first is there
pub found_at : {A B : Type 0} (f : A → Option B) (xs : List A) (k : ℕ) (x : A) (y : B) → k < length xs → x ≡ get_or xs k x
    → first_there (map f (take k xs)) ≡ None → f x ≡ Some y → first_there (map f xs) ≡ Some y
found_at f [] k x y within here none some = absurd (omega arith)
found_at {B = B} f (z ∷ xs) zero x y within here none some = ap (λ (o : Option B). first_there (o ∷ map f xs)) (ap f (sym here) ∙ some)
found_at {B = B} f (z ∷ xs) (suc k) x y within here none some = go (f z) none (λ n. found_at f xs k x y (omega arith) here n some)
  where
    go : (o : Option B) → first_there (o ∷ map f (take k xs)) ≡ None → (first_there (map f (take k xs)) ≡ None → first_there (map f xs) ≡ Some y)
        → first_there (o ∷ map f xs) ≡ Some y
    go None n rest = rest n
    go (Some w) n rest = absurd cc
