-- How long a line of a script may be.
use Rattle.std.specs.Prelude.{ℕ}

-- how many bytes a line may have
abbrev pub line_limit : ℕ
line_limit = 65536
