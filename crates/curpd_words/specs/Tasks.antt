-- What a task needs of its header.
use Rattle.std.specs.Prelude.{◌≡◌, None, ⊤}
use Rattle.curp_script.specs.Headers.{bad_field}
use Rattle.curpd_words.specs.declared.task.CurpdTask.{CurpdTask}
use Rattle.curpd_words.specs.declared.task.CurpdTask.TheVariants as task

-- the header of its node, if it is of one, is in the ranges of a script's first line
abbrev pub HasHeader : CurpdTask → Type 0
HasHeader (task.Format seat) = bad_field seat.header ≡ None
HasHeader (task.Node seat) = bad_field seat.header ≡ None
HasHeader (task.Front seat) = bad_field seat.header ≡ None
HasHeader (task.Gather files until) = ⊤
