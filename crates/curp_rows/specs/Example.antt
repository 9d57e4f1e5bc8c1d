-- A worked example: a script, and the text that its run has.
use Prim.Native.String.{String}
use Rattle.std.specs.Prelude.{◌≡◌, ℕ, List, ◌++◌, flat_map, codes}
use Rattle.curp_msg.specs.declared.script.Header.{Header}
use Rattle.curp_msg.specs.declared.script.Step.{Step}
use Rattle.curp_report.specs.RunText.{run_text}

-- a script, and its whole text
pub record Example : Type 0 where
  pub header : Header
  pub steps : List Step
  pub text : List ℕ

-- lines, each with a line feed behind it
abbrev pub lines : List String → List ℕ
lines texts = flat_map (λ text. codes text ++ codes "\n") texts

-- the definitions give the script this text
abbrev pub Plays : Example → Type 0
Plays e = run_text e.header e.steps ≡ e.text
