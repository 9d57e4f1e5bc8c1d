-- How a run ended, and what the program tells of it.
use Rattle.std.specs.Prelude.{◌≡◌, ◌⊎◌, ℕ, ◌++◌, codes, Bool, true, false, List, Option, Some, None, Result, Ok, Err, ⊤}
use Rattle.std.specs.Fmt.{decimal}
use Rattle.curp_base.specs.declared.failed.Failed.{Failed}
use Rattle.curp_base.specs.declared.failed.Failed.TheVariants as failed
use Rattle.curp_io.specs.Streams.{Rose}
use Rattle.curp_check.specs.Claim.{claim_limit}
use Rattle.curp_check.specs.Verdict.{number_of}
use Rattle.curp_script.specs.declared.error.LineError.{LineError}
use Rattle.curp_script.specs.Script.{Ending, Whole, Bad, TooLong, TooMany}
use Rattle.curp_msg.specs.Limits.{step_limit}
use Rattle.curp_script.specs.Text.{reason_text}
use Rattle.curp_runner.specs.declared.status.Status.{Status}
use Rattle.curp_runner.specs.declared.status.Status.TheVariants as status

-- ---- how a run ends

-- the status of a script that was played as far as it goes
abbrev pub status_of : Ending → Status
status_of Whole = status.Ok
status_of (Bad line reason) = status.BadLine line reason
status_of (TooLong line) = status.LineTooLong line
status_of TooMany = status.TooManySteps

-- the status of a run that gave this
abbrev pub ended : Result ⊤ Status → Status
ended (Ok _) = status.Ok
ended (Err stop) = stop

-- a fault or running out of memory ended the run before its script did
abbrev pub is_cut_short : Status → Bool
is_cut_short status.ReadFault = true
is_cut_short status.WriteFault = true
is_cut_short status.NoMemory = true
is_cut_short _ = false

-- reading or writing failed
abbrev pub is_fault : Status → Bool
is_fault status.ReadFault = true
is_fault status.WriteFault = true
is_fault _ = false

-- the status of a run that a line ends. Running out of memory says nothing of the line
abbrev pub refused_at : ℕ → Failed LineError → Status
refused_at line failed.NoMemory = status.NoMemory
refused_at line (failed.Because reason) = status.BadLine line reason

-- with no fault of its input and its output, it ends with the status 0, or out of memory
abbrev pub EndsWhole : Status → (read_before read_after written_before written_after : ℕ) → Type 0
EndsWhole result read_before read_after written_before written_after =
    (Rose read_before read_after → ⊥) → (Rose written_before written_after → ⊥) → (result ≡ status.Ok) ⊎ (result ≡ status.NoMemory)

-- ---- what is told

-- the number with which the process ends
abbrev pub code_of : Status → ℕ
code_of status.Ok = 0
code_of (status.No clause) = 1
code_of status.Usage = 2
code_of (status.BadLine line reason) = 3
code_of status.ReadFault = 4
code_of status.WriteFault = 5
code_of status.NoMemory = 6
code_of status.TooManySteps = 7
code_of status.TooManyLines = 7
code_of (status.TooLarge weight) = 9
code_of (status.LineTooLong line) = 10
code_of (status.BadRequest at) = 11

-- the process ends with the number of a status
pub record TellsStatus (number : ℕ) : Type 0 where
  pub status : Status
  pub tells : number ≡ code_of status

-- how the run ended, in words
abbrev pub status_text : Status → List ℕ
status_text status.Ok = codes "done"
status_text (status.No clause) = codes "no, clause " ++ decimal (number_of clause)
status_text status.Usage = codes "usage: curp play, make, live, check, resp or manage, each with its options; curp --help tells them"
status_text (status.BadLine line reason) = codes "line " ++ decimal line ++ codes ": " ++ reason_text reason
status_text status.ReadFault = codes "reading failed"
status_text status.WriteFault = codes "writing failed"
status_text status.NoMemory = codes "out of memory"
status_text status.TooManySteps = codes "more than " ++ decimal step_limit ++ codes " steps"
status_text status.TooManyLines = codes "more than " ++ decimal claim_limit ++ codes " lines"
status_text (status.TooLarge weight) = codes "weight " ++ decimal weight
status_text (status.LineTooLong line) = codes "line " ++ decimal line ++ codes " is too long"
status_text (status.BadRequest at) = codes "bad request at " ++ decimal at

-- a run that ended well is no cause for complaint
abbrev pub complaint_of : Status → Option Status
complaint_of status.Ok = None
complaint_of s = Some s

-- the line on standard error for a run that didn't end well, without its line feed
abbrev pub complaint_text : Status → List ℕ
complaint_text s = codes "curp: " ++ status_text s
