-- A text that is written piece by piece.
use Rattle.std.proofs.Common.{◌≡◌, ℕ, List, ◌++◌}

-- what stands so far behind what was held before, and what is due
pub record SoFar (text before now due : List ℕ) : Type 0 where
  pub done : List ℕ
  pub is : now ≡ before ++ done
  pub goes_on : done ++ due ≡ text
