-- What a buffer of lines holds.
use Rattle.std.specs.Prelude.{ℕ, List}

-- the bytes read ahead, and the last line
pub record ReadAhead : Type 0 where
  pub ahead : List ℕ
  pub line : List ℕ
