-- Items of a list that are looked at one by one.
use Rattle.std.proofs.Common.{◌≡◌, ◌<◌, ◌+◌, ◌++◌, ◌∙◌, zero, suc, ℕ, List, [], ◌∷◌, Some, get_or, length, take, ap, sym, subst, refl, arith}
use Rattle.std.proofs.lemmas.List.{take_more}
use Rattle.curp_base.specs.Words.{At, Each}
use Rattle.curp_base.proofs.Lists.{Each-append, take_one}

-- what stands at a place is at it
pub at_place : {A : Type 0} (xs : List A) (k : ℕ) (x : A) → k < length xs → x ≡ get_or xs k x → At xs k x
at_place [] k x within here = absurd (omega (arith, within))
at_place (y ∷ xs) zero x within here = ap (λ z. Some z) (sym here)
at_place (y ∷ xs) (suc k) x within here = at_place xs k x (omega (arith, within)) here

-- what holds of it holds of each so far
pub next_too : {A : Type 0} (P : A → Type 0) (xs : List A) (k : ℕ) (x : A) → k < length xs → x ≡ get_or xs k x → Each P (take k xs) → P x
    → Each P (take (k + 1) xs)
next_too {A} P xs k x within here so_far next =
    let more : take (k + 1) xs ≡ take k xs ++ x ∷ [] = take_more xs k x within ∙ ap (λ (z : A). take k xs ++ z ∷ []) (sym here) in
    subst (λ (zs : List A). Each P zs) (sym more) (Each-append P (take k xs) (x ∷ []) so_far (next, tt))

pub next_at : {A : Type 0} (P : A → Type 0) (xs : List A) (k : ℕ) (x : A) → At xs k x → Each P (take k xs) → P x → Each P (take (k + 1) xs)
next_at {A} P xs k x at so_far next =
    subst (λ (zs : List A). Each P zs) (sym (take_one xs k x at)) (Each-append P (take k xs) (x ∷ []) so_far (next, tt))
