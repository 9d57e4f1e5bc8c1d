-- How long a script may be, and how much the messages of a run may weigh.
use Rattle.std.specs.Prelude.{ℕ}

-- how many steps a script may have
abbrev pub step_limit : ℕ
step_limit = 200000

-- beyond this weight of all messages no node gets anything more
abbrev pub weight_limit : ℕ
weight_limit = 2000000
