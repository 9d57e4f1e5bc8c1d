-- What is left of lists.
use Rattle.std.proofs.Common.{◌≡◌, ℕ, zero, suc, ◌-◌, List, [], ◌∷◌, ◌++◌, length, drop, refl, arith}

-- what is left of two lists put together
pub drop_both : {A : Type 0} (n : ℕ) (xs ys : List A) → drop n (xs ++ ys) ≡ drop n xs ++ drop (n - length xs) ys
drop_both zero [] ys = refl
drop_both zero (x ∷ xs) ys = let none : 0 - length (x ∷ xs) ≡ 0 = omega arith in rw none refl
drop_both (suc n) [] ys = let same : suc n - 0 ≡ suc n = omega arith in rw same refl
drop_both (suc n) (x ∷ xs) ys = let same : suc n - length (x ∷ xs) ≡ n - length xs = omega arith in rw same (drop_both n xs ys)
