-- The first of a list that has a property, and what stands on both sides of it.
use Rattle.std.specs.Prelude.{◌≡◌, ℕ, Bool, if◌then◌else◌, List, [], ◌∷◌, ◌++◌, length, Option, Some, None, option_map}

pub record Found (A : Type 0) : Type 0 where
  pub before : List A
  pub it : A
  pub behind : List A

-- with one more before it
abbrev pub found_behind : {A : Type 0} → A → Found A → Found A
found_behind x found = record { before = x ∷ found.before; it = found.it; behind = found.behind }

-- the first that has it
abbrev pub found_by : {A : Type 0} → (A → Bool) → List A → Option (Found A)
found_by has [] = None
found_by has (x ∷ xs) =
    if has x then Some (record { before = []; it = x; behind = xs }) else option_map (found_behind x) (found_by has xs)

-- what becomes of the list where others stand in its place
abbrev pub in_place : {A : Type 0} → List A → Found A → List A
in_place others found = found.before ++ (others ++ found.behind)

-- it stands at this place of the list
pub record StandsAt {A : Type 0} (xs : List A) (at : ℕ) (found : Found A) : Type 0 where
  pub is : xs ≡ found.before ++ found.it ∷ found.behind
  pub place : at ≡ length found.before
