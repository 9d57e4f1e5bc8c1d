-- What a buffer of bytes holds.
use Rattle.std.specs.Prelude.{ℕ, List}

-- the bytes read ahead, and how many were passed over before
pub record Ahead : Type 0 where
  pub bytes : List ℕ
  pub passed : ℕ
