-- Where the first item of a list that passes a test stands, and the last item.
use Rattle.std.proofs.Common.{◌≡◌, ℕ, zero, suc, ◌+◌, ◌-◌, ◌<◌, ◌≤◌, nat_lt, cond, Bool, true, false, List, [], ◌∷◌, length, slice_get, Some, None, refl, ap, sym, ◌∙◌, arith}
use Rattle.std.specs.List.{filter, position, position_or_len}
use Rattle.std.proofs.lemmas.Bool.Decides.{nat_tests}
use Rattle.curp_base.specs.Words.{first_of, last_of}

first_stands : {A : Type 0} (p : A → Bool) (xs : List A) → first_of (filter p xs) ≡ slice_get xs (position_or_len p xs)
first_stands p [] = refl
first_stands p (x ∷ xs) = go (p x) refl (first_stands p xs)
  where
    one_more : slice_get (x ∷ xs) (1 + position_or_len p xs) ≡ slice_get xs (position_or_len p xs)
    one_more = let next : 1 + position_or_len p xs ≡ suc (position_or_len p xs) = omega arith in ap (slice_get (x ∷ xs)) next

    go : (b : Bool) → p x ≡ b → first_of (filter p xs) ≡ slice_get xs (position_or_len p xs) → first_of (filter p (x ∷ xs)) ≡ slice_get (x ∷ xs) (position_or_len p (x ∷ xs))
    go true e rest = rw e refl
    go false e rest = rw e (rest ∙ sym one_more)

-- the first of those that pass stands at the place that was found
pub first_at : {A : Type 0} (p : A → Bool) (xs : List A) (at : ℕ) → Some at ≡ position p xs → (at < length xs) × (first_of (filter p xs) ≡ slice_get xs at)
first_at p xs at e = go (nat_lt (position_or_len p xs) (length xs)) refl e
  where
    go : (b : Bool) → nat_lt (position_or_len p xs) (length xs) ≡ b → Some at ≡ cond b (Some (position_or_len p xs)) None → (at < length xs) × (first_of (filter p xs) ≡ slice_get xs at)
    go true l is = let same : at ≡ position_or_len p xs = cc in (grind (arith, nat_tests), first_stands p xs ∙ ap (slice_get xs) (sym same))
    go false l is = absurd cc

past_the_end : {A : Type 0} (xs : List A) (n : ℕ) → length xs ≤ n → slice_get xs n ≡ None
past_the_end [] n l = refl
past_the_end (x ∷ xs) zero l = absurd (omega arith)
past_the_end (x ∷ xs) (suc n) l = past_the_end xs n (omega arith)

-- where none was found, none passes
pub first_nowhere : {A : Type 0} (p : A → Bool) (xs : List A) → None ≡ position p xs → first_of (filter p xs) ≡ None
first_nowhere p xs e = go (nat_lt (position_or_len p xs) (length xs)) refl e
  where
    go : (b : Bool) → nat_lt (position_or_len p xs) (length xs) ≡ b → None ≡ cond b (Some (position_or_len p xs)) None → first_of (filter p xs) ≡ None
    go true l is = absurd cc
    go false l is = first_stands p xs ∙ past_the_end xs (position_or_len p xs) (grind (arith, nat_tests))

last_from : {A : Type 0} (x : A) (rest : List A) → slice_get (x ∷ rest) (length rest) ≡ last_of (x ∷ rest)
last_from x [] = refl
last_from x (y ∷ rest) = last_from y rest

-- the last item stands one below the length
pub last_is : {A : Type 0} (xs : List A) (n : ℕ) → n ≡ length xs - 1 → slice_get xs n ≡ last_of xs
last_is [] n e = refl
last_is (x ∷ rest) n e = let same : n ≡ length rest = omega (arith, e) in rw same (last_from x rest)
