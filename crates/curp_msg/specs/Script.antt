-- What a script is: the ranges of its header, and what a step may name.
use Rattle.std.specs.Prelude.{◌≤◌, List, ⊤}
use Rattle.curp_base.specs.Words.{Each}
use Rattle.curp_cmd.specs.Store.{NamesKey}
use Rattle.curp_msg.specs.declared.script.Header.{Header}
use Rattle.curp_msg.specs.declared.script.Step.{Step}
use Rattle.curp_msg.specs.declared.script.Step.TheVariants.{Invoke}

-- each number of the header is in the range that the format of scripts gives it
pub record IsHeader (h : Header) : Type 0 where
  pub clients : (1 ≤ h.clients) × (h.clients ≤ 64)
  pub f : (1 ≤ h.f) × (h.f ≤ 5)
  pub parts : (1 ≤ h.parts) × (h.parts ≤ 16)
  pub sets : (1 ≤ h.sets) × (h.sets ≤ 1024)
  pub ways : (1 ≤ h.ways) × (h.ways ≤ 16)

-- the command that a step invokes, if it does, is a value of its type
abbrev pub IsStep : Step → Type 0
IsStep (Invoke n command) = NamesKey command
IsStep _ = ⊤

-- a script: a header, and any steps, also such as are refused
pub record IsRun (h : Header) (steps : List Step) : Type 0 where
  pub header : IsHeader h
  pub steps_are : Each IsStep steps
