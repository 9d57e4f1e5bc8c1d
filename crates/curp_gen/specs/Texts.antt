-- A made script, and what happened in it, as text.
use Rattle.std.specs.Prelude.{ℕ, List, ◌++◌, Some, codes}
use Rattle.std.specs.Fmt.{decimal}
use Rattle.curp_script.specs.Script.{Script, Whole}
use Rattle.curp_script.specs.Texts.{line_text, script_lines}
use Rattle.curp_words.specs.declared.task.MakePlan.{MakePlan}
use Rattle.curp_words.specs.declared.task.Output.{Output}
use Rattle.curp_words.specs.declared.task.Output.TheVariants as output
use Rattle.curp_gen.specs.Making.{after, begun, made_steps, summary_of}
use Rattle.curp_words.specs.Plan.{header_of}
use Rattle.curp_gen.specs.declared.summary.Summary.{Summary}

-- the script of a plan: its header, and its steps
abbrev pub script_text : MakePlan → List ℕ
script_text plan = script_lines (header_of plan) (made_steps plan)

-- what reading it gives: it is read to its end
abbrev pub made_script : MakePlan → Script
made_script plan = record { header = Some (header_of plan); body = record { steps = made_steps plan; ending = Whole } }

-- a number under its name
abbrev pub count_text : List ℕ → ℕ → List ℕ
count_text name count = line_text (name ++ codes " " ++ decimal count)

-- the six numbers
abbrev pub summary_text : Summary → List ℕ
summary_text s =
    count_text (codes "steps") s.steps ++ count_text (codes "refused") s.refused
    ++ count_text (codes "messages") s.messages ++ count_text (codes "weight") s.weight
    ++ count_text (codes "completed") s.completed ++ count_text (codes "order") s.order

-- what `make` writes by a plan
abbrev pub made_text : MakePlan → Output → List ℕ
made_text plan output.Script = script_text plan
made_text plan output.Summary = summary_text (summary_of (after plan.steps (begun plan)))
