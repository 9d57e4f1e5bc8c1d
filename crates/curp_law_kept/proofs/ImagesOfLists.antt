-- What stands in images, in filters and at the ends of lists.
use Rattle.std.proofs.Common.{◌≡◌, ℕ, zero, suc, Bool, true, List, [], ◌∷◌, Some}
use Rattle.std.specs.List.{list_all}
use Rattle.std.proofs.lemmas.Bool.{and_parts}
use Rattle.curp_base.specs.Words.{At, Each, first_of, last_of}

-- the first stands at place 0
pub first_at : {A : Type 0} (xs : List A) (x : A) → first_of xs ≡ Some x → At xs 0 x
first_at [] x e = absurd cc
first_at (y ∷ xs) x e = e

-- the last stands somewhere
pub last_at : {A : Type 0} (xs : List A) (x : A) → last_of xs ≡ Some x → (k : ℕ) × At xs k x
last_at [] x e = absurd cc
last_at (y ∷ []) x e = (zero, e)
last_at (y ∷ z ∷ rest) x e = let r = last_at (z ∷ rest) x e in (suc r.0, r.1)

-- what a test tells of each item
pub each_by_all : {A : Type 0} (P : A → Type 0) (p : A → Bool) → ((x : A) → p x ≡ true → P x) → (xs : List A) → list_all p xs ≡ true → Each P xs
each_by_all P p f [] e = tt
each_by_all P p f (x ∷ xs) e = (f x (and_parts (p x) (list_all p xs) e).0, each_by_all P p f xs (and_parts (p x) (list_all p xs) e).1)
