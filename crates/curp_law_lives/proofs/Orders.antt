-- Lists that have others in their order.
use Rattle.std.specs.Prelude.{List, [], ◌∷◌, ◌++◌, refl}
use Rattle.std.proofs.Common.{inl, inr, subst}
use Rattle.std.proofs.lemmas.List.{append-nil}
use Rattle.curp_law_lives.specs.OneRun.{HasInOrder}

pub all_in_order : {A : Type 0} (xs : List A) → HasInOrder xs xs
all_in_order [] = tt
all_in_order (x ∷ xs) = inl (refl, all_in_order xs)

none_in_order : {A : Type 0} (ys : List A) → HasInOrder ys []
none_in_order [] = tt
none_in_order (y ∷ ys) = tt

passed : {A : Type 0} (y : A) (ys xs : List A) → HasInOrder ys xs → HasInOrder (y ∷ ys) xs
passed y ys [] is = tt
passed y ys (x ∷ xs) is = inr is

-- more behind both
pub joined_in_order : {A : Type 0} (ys xs vs us : List A) → HasInOrder ys xs → HasInOrder vs us → HasInOrder (ys ++ vs) (xs ++ us)
joined_in_order [] [] vs us is more = more
joined_in_order [] (x ∷ xs) vs us is more = absurd is
joined_in_order (y ∷ ys) [] vs us is more = passed y (ys ++ vs) us (joined_in_order ys [] vs us (none_in_order ys) more)
joined_in_order (y ∷ ys) (x ∷ xs) vs us is more = elim is [
  | inl here ↦ inl (here.0, joined_in_order ys xs vs us here.1 more)
  | inr later ↦ inr (joined_in_order ys (x ∷ xs) vs us later more)
]

-- more behind the first
pub more_in_order : {A : Type 0} (ys xs vs : List A) → HasInOrder ys xs → HasInOrder (ys ++ vs) xs
more_in_order {A} ys xs vs is = subst (λ (l : List A). HasInOrder (ys ++ vs) l) (append-nil xs) (joined_in_order ys xs vs [] is (none_in_order vs))
