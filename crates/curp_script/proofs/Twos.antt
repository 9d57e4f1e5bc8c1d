-- A list that is read two items at a time, into the prefix of a buffer.
use Rattle.std.proofs.Common.{◌≡◌, ◌≤◌, ◌<◌, ◌+◌, ◌-◌, ℕ, List, [], ◌∷◌, ◌++◌, length, map, take, drop, get_or, set, Option, Some, None, option_map, option_and_then, refl, ap, append_assoc, arith}
use Rattle.std.proofs.lemmas.Grind.{common_steps}
use Rattle.std.proofs.lemmas.List.{take_more_set}
use Rattle.curp_script.specs.Digits.{by_twos, at_most}

-- nothing stands before the first two
pub before_all : {B : Type 0} (whole : Option (List B)) → whole ≡ option_map (λ more. [] ++ more) whole
before_all None = refl
before_all (Some more) = refl

-- what is made of items may be made as they are read
pub by_twos-map : {A B C : Type 0} (f : B → B → Option C) (g : A → B) (items : List A) → by_twos (λ a b. f (g a) (g b)) items ≡ by_twos f (map g items)
by_twos-map f g [] = refl
by_twos-map f g (a ∷ []) = refl
by_twos-map f g (a ∷ b ∷ rest) = ap (λ more. option_and_then (λ x. option_map (λ xs. x ∷ xs) more) (f (g a) (g b))) (by_twos-map f g rest)

module _ {A B : Type 0} (f : A → A → Option B) where
  -- the first two
  by_twos-pair : (items : List A) (a b d e : A) → 2 ≤ length items → a ≡ get_or items 0 d → b ≡ get_or items 1 e
      → by_twos f items ≡ option_and_then (λ x. option_map (λ xs. x ∷ xs) (by_twos f (drop 2 items))) (f a b)
  by_twos-pair [] a b d e long first second = absurd (omega arith)
  by_twos-pair (x ∷ []) a b d e long first second = absurd (omega arith)
  by_twos-pair (x ∷ y ∷ rest) a b d e long first second = rw (first, second) refl

  -- what is left behind the first two
  behind : (items : List A) → take (length items - 2) (drop 2 items) ≡ drop 2 items
  behind items = grind (arith, common_steps)

  append_all : (prefix : List B) (x : B) (rest : Option (List B))
      → option_map (λ more. prefix ++ more) (option_map (λ xs. x ∷ xs) rest) ≡ option_map (λ more. (prefix ++ x ∷ []) ++ more) rest
  append_all prefix x None = refl
  append_all prefix x (Some more) = simp append_assoc

  -- a turn of the loop keeps what the whole is
  pub keeps : (whole : Option (List B)) (items : List A) (a b d e : A) (buffer : List B) (n : ℕ) (x : B)
      → whole ≡ option_map (λ more. take n buffer ++ more) (by_twos f items) → 2 ≤ length items → a ≡ get_or items 0 d → b ≡ get_or items 1 e
      → f a b ≡ Some x → n < length buffer
      → whole ≡ option_map (λ more. take (n + 1) (set buffer n x) ++ more) (by_twos f (take (length items - 2) (drop 2 items)))
  keeps whole items a b d e buffer n x left long first second is within =
      rw (left, by_twos-pair items a b d e long first second, is, behind items, take_more_set buffer n x within) (append_all (take n buffer) x (by_twos f (drop 2 items)))

  too_many : (prefix : List B) (most : ℕ) (x : Option B) (rest : Option (List B)) → length prefix ≡ most
      → None ≡ option_and_then (at_most most) (option_map (λ more. prefix ++ more) (option_and_then (λ y. option_map (λ xs. y ∷ xs) rest) x))
  too_many prefix most None rest is = refl
  too_many prefix most (Some b) None is = refl
  too_many prefix most (Some b) (Some bytes) is = grind (arith, common_steps)

  -- two more than the buffer has room for
  pub full : (whole : Option (List B)) (items : List A) (a b d e : A) (buffer : List B) (n most : ℕ)
      → whole ≡ option_map (λ more. take n buffer ++ more) (by_twos f items) → 2 ≤ length items → a ≡ get_or items 0 d → b ≡ get_or items 1 e
      → n ≡ length buffer → length buffer ≡ most → None ≡ option_and_then (at_most most) whole
  full whole items a b d e buffer n most left long first second at_end size =
      rw (left, by_twos-pair items a b d e long first second) (too_many (take n buffer) most _ _ (grind (arith, common_steps)))
