-- The items in front of a place pass a test, and those from there on don't.
use Rattle.std.proofs.Common.{◌≡◌, ℕ, zero, suc, Bool, true, false, not, List, [], ◌∷◌, take, drop, refl, ap, arith}
use Rattle.std.specs.List.{filter}
use Rattle.std.specs.List.Sorted.{IsPartitionPoint}

abbrev pub IsEnd : {A : Type 0} → (A → Bool) → List A → ℕ → Type 0
IsEnd p xs at = IsPartitionPoint (λ x. p x ≡ true) (λ x. p x ≡ false) xs at

end_behind : {A : Type 0} (p : A → Bool) (x : A) (xs : List A) (at : ℕ) → IsEnd p (x ∷ xs) (suc at) → IsEnd p xs at
end_behind p x xs at end =
    (λ k d l m. end.0 (suc k) d (omega arith) (omega arith), λ k d l m. end.1 (suc k) d (omega arith) (omega arith))

none_passes : {A : Type 0} (p : A → Bool) (x : A) (xs : List A) → IsEnd p (x ∷ xs) zero → IsEnd p xs zero
none_passes p x xs end =
    (λ k d l m. absurd (omega arith), λ k d l m. end.1 (suc k) d (omega arith) (omega arith))

pub front_passes : {A : Type 0} (p : A → Bool) (xs : List A) (at : ℕ) → IsEnd p xs at → take at xs ≡ filter p xs
front_passes p [] zero end = refl
front_passes p [] (suc at) end = refl
front_passes p (x ∷ xs) zero end =
    let e : p x ≡ false = end.1 0 x (omega arith) (omega arith) in
    rw e (front_passes p xs zero (none_passes p x xs end))
front_passes p (x ∷ xs) (suc at) end =
    let e : p x ≡ true = end.0 0 x (omega arith) (omega arith) in
    rw e (ap (λ ys. x ∷ ys) (front_passes p xs at (end_behind p x xs at end)))

pub back_fails : {A : Type 0} (p : A → Bool) (xs : List A) (at : ℕ) → IsEnd p xs at → drop at xs ≡ filter (λ x. not (p x)) xs
back_fails p [] zero end = refl
back_fails p [] (suc at) end = refl
back_fails p (x ∷ xs) zero end =
    let e : p x ≡ false = end.1 0 x (omega arith) (omega arith) in
    rw e (ap (λ ys. x ∷ ys) (back_fails p xs zero (none_passes p x xs end)))
back_fails p (x ∷ xs) (suc at) end =
    let e : p x ≡ true = end.0 0 x (omega arith) (omega arith) in
    rw e (back_fails p xs at (end_behind p x xs at end))
