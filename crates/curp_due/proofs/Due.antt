-- What is due first.
use Rattle.std.proofs.Common.{◌≡◌, ℕ, List, [], ◌∷◌, ◌++◌, map, Option, Some, None, refl, ap, sym, ◌∙◌}
use Rattle.std.specs.Prelude.{option_map}
use Rattle.curp_base.specs.Words.{first_of}

-- the first of what two lists give, where the first has one, and where it has none
pub first_retried : {A B C : Type 0} (f : A → C) (g : B → C) (xs : List A) (ys : List B) (x : C) → Some x ≡ option_map f (first_of xs) → Some x ≡ first_of (map f xs ++ map g ys)
first_retried f g [] ys x is = absurd cc
first_retried f g (y ∷ xs) ys x is = is

pub first_invoked : {A B C : Type 0} (f : A → C) (g : B → C) (xs : List A) (ys : List B) → None ≡ option_map f (first_of xs) → first_of (map f xs ++ map g ys) ≡ option_map g (first_of ys)
first_invoked f g [] [] is = refl
first_invoked f g [] (y ∷ ys) is = refl
first_invoked f g (x ∷ xs) ys is = absurd cc
