-- How many sets of how many slots a witness has.
use Rattle.std.specs.Prelude.{ℕ, ◌≤◌}

-- there are witnesses with so many sets of so many slots
pub record IsShape (sets ways : ℕ) : Type 0 where
  pub some_sets : 1 ≤ sets
  pub sets_fit : sets ≤ 1024
  pub some_ways : 1 ≤ ways
  pub ways_fit : ways ≤ 16
