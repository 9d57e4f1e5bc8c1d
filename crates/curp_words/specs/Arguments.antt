-- The arguments of the program.
use Rattle.std.specs.Prelude.{Option, List, String, drop, map, string_bytes}
use Rattle.std.specs.declared.alloc.Global.{Global}
use Rattle.clap.specs.Walk.{Text}
use Rattle.curp_words.specs.Words.{task_in}
use Rattle.curp_words.specs.declared.task.Task.{Task}

-- the words behind the program's name, which is the first of its arguments
abbrev pub words_of : List (String Global) → List Text
words_of arguments = map string_bytes (drop 1 arguments)

-- what the arguments of the program ask for
abbrev pub asked : List (String Global) → Option Task
asked arguments = task_in (words_of arguments)
