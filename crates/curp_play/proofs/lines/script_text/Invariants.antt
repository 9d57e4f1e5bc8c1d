use Rattle.std.proofs.Common.{◌≡◌, ◌++◌, take}
use Rattle.curp_base.specs.Words.{Each}
use Rattle.curp_law_print.specs.Ranges.{StepInRange}
use Rattle.curp_script.specs.Texts.{header_line, lines_text}
use Rattle.curp_play.proofs.lines.script_text.Given as goal

-- so many steps are printed
abbrev pub invariant-loop-step : goal.invariant-loop-step
invariant-loop-step l = record {
  text : l.text.items ≡ header_line l.header ++ lines_text (take l.step-index l.steps);
  in_range : Each StepInRange (take l.step-index l.steps);
}
