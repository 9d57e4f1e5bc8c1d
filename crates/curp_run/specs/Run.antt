-- How a run of the program ends.
use Rattle.std.specs.Prelude.{List}
use Rattle.std.specs.declared.io.ErrorKind.{ErrorKind}
use Rattle.std.specs.declared.io.ErrorKind.TheVariants as kind
use Rattle.curp_base.specs.Words.{Each}
use Rattle.curp_law_print.specs.Ranges.{StepInRange}
use Rattle.curp_msg.specs.declared.script.Step.{Step}
use Rattle.curp_runner.specs.declared.status.Status.{Status}
use Rattle.curp_runner.specs.declared.status.Status.TheVariants as status
use Rattle.curp_script.specs.Printed.{NamesNode}

-- words that are no text are no command line; any other error of reading them is running out of memory
abbrev pub unread_words : ErrorKind → Status
unread_words kind.InvalidData = status.Usage
unread_words _ = status.NoMemory

-- each of the steps names a node that can be printed, and each of its values is in the range that its type gives it
pub record ArePrintable (steps : List Step) : Type 0 where
  pub names : Each NamesNode steps
  pub in_range : Each StepInRange steps
