-- A script as it is printed: a line each for its header and its steps.
use Rattle.std.specs.Prelude.{ℕ, List, [], ◌∷◌, ◌++◌}
use Rattle.serde_json.specs.Written.{compact_text}
use Rattle.curp_msg.specs.declared.script.Header.{Header}
use Rattle.curp_msg.specs.declared.script.Step.{Step}
use Rattle.curp_script.specs.Printed.{header_data, step_data}

-- a line ends with a line feed
abbrev pub line_text : List ℕ → List ℕ
line_text line = line ++ 10 ∷ []

-- the line of a step
abbrev pub step_line : Step → List ℕ
step_line step = line_text (compact_text (step_data step))

-- the lines of steps
abbrev pub lines_text : List Step → List ℕ
lines_text [] = []
lines_text (step ∷ steps) = step_line step ++ lines_text steps

-- the line of a header
unfoldable pub header_line : Header → List ℕ
header_line header = line_text (compact_text (header_data header))

-- a script: the line of its header, and the lines of its steps
abbrev pub script_lines : Header → List Step → List ℕ
script_lines header steps = header_line header ++ lines_text steps
