-- A script that is read line by line, whatever its lines say.
use Rattle.std.specs.Prelude.{◌≡◌, ℕ, ◌+◌, ◌-◌, nat_lt, if◌then◌else◌, false, List, [], ◌∷◌, ◌++◌, length, Option, Some, None, Result, Ok, Err, ⊤}
use Rattle.curp_base.specs.Limits.{line_limit}
use Rattle.curp_io.specs.Text.{GivesLine, Progress, line_of, lines_of}
use Rattle.curp_msg.specs.Limits.{step_limit}
use Rattle.curp_msg.specs.declared.script.Header.{Header}
use Rattle.curp_script.specs.declared.error.LineError.{LineError}
use Rattle.curp_script.specs.declared.error.LineError.TheVariants.{BadJson}
use Rattle.curp_script.specs.Grammar.{header_in}
use Rattle.curp_script.specs.Script.{Ending, Whole, Bad, TooLong, TooMany, Script, script_of}
use Rattle.curp_runner.specs.Status.{is_cut_short, status_of}
use Rattle.curp_runner.specs.declared.status.Status.{Status}
use Rattle.curp_runner.specs.declared.status.Status.TheVariants as status

-- ---- what lines say

-- what the lines behind a header say, and how the script ends behind them
pub record Said (A : Type 0) : Type 0 where
  pub lines : List A
  pub ending : Ending

-- no line, and this end
abbrev pub nothing_said : {A : Type 0} → Ending → Said A
nothing_said ending = record { lines = []; ending = ending }

-- line number n says this, which is step number n - 1 and may be one too many, or is refused
abbrev pub with_line : {A : Type 0} → ℕ → Result A LineError → Said A → Said A
with_line n (Err reason) more = nothing_said (Bad n reason)
with_line n (Ok line) more =
    if nat_lt step_limit (n - 1) then nothing_said TooMany else record { lines = line ∷ more.lines; ending = more.ending }

-- what lines say, each by its meaning, from line number n on
abbrev pub said_in : {A : Type 0} → (List ℕ → Result A LineError) → ℕ → List (List ℕ) → Said A
said_in meaning n [] = nothing_said Whole
said_in meaning n (line ∷ lines) =
    if nat_lt line_limit (length line) then nothing_said (TooLong n) else with_line n (meaning line) (said_in meaning (n + 1) lines)

-- the header, where there is one, and what is said behind it
pub record SaidScript (A : Type 0) : Type 0 where
  pub header : Option Header
  pub body : Said A

-- the script that begins with a line that was read so
abbrev pub said_behind : {A : Type 0} → Result Header LineError → Said A → SaidScript A
said_behind (Err reason) more = record { header = None; body = nothing_said (Bad 1 reason) }
said_behind (Ok header) more = record { header = Some header; body = more }

-- the script that lines are. One without any line is refused as if its first line were no JSON
abbrev pub script_by : {A : Type 0} → (List ℕ → Result A LineError) → List (List ℕ) → SaidScript A
script_by meaning [] = record { header = None; body = nothing_said (Bad 1 BadJson) }
script_by meaning (line ∷ lines) =
    if nat_lt line_limit (length line) then record { header = None; body = nothing_said (TooLong 1) }
    else said_behind (header_in line) (said_in meaning 2 lines)

-- ---- a script of steps

-- the script that bytes are
abbrev pub script_in : List ℕ → Script
script_in bytes = script_of (lines_of bytes)

-- ---- what was read, and what is due

-- so many lines were given, and reading goes on
pub record IsBehind (lines : Progress) (number : ℕ) : Type 0 where
  pub going_on : lines.failed ≡ None
  pub numbered : lines.number ≡ number

-- what the bytes not read yet say
abbrev pub due : {A : Type 0} → (List ℕ → Result A LineError) → Progress → List ℕ → Said A
due meaning lines left = said_in meaning (lines.number + 1) (lines_of (lines.ahead ++ left))

-- a script ends here with that status, unless the run is cut short
abbrev pub StopsAs : {A : Type 0} → Said A → Status → Type 0
StopsAs body stop = is_cut_short stop ≡ false → (body.lines ≡ []) × (stop ≡ status_of body.ending)

-- the script has no header, and ends with that status, unless the run is cut short
abbrev pub HasNoHeader : {A : Type 0} → SaidScript A → Status → Type 0
HasNoHeader s stop = is_cut_short stop ≡ false → (s.header ≡ None) × (stop ≡ status_of s.body.ending)

-- the first line is no header, and ends the script with that status, unless the run is cut short
abbrev pub IsNoHeader : Result Header LineError → Status → Type 0
IsNoHeader (Err reason) stop = is_cut_short stop ≡ false → stop ≡ status.BadLine 1 reason
IsNoHeader (Ok header) stop = is_cut_short stop ≡ false → ⊥

-- what was due of a script before a line was read, or none was left, and is due after that
abbrev pub GivesSaid : {A : Type 0} → Said A → Result (Option A) Status → Said A → Type 0
GivesSaid body (Ok (Some line)) rest = body ≡ record { lines = line ∷ rest.lines; ending = rest.ending }
GivesSaid body (Ok None) rest = body ≡ nothing_said Whole
GivesSaid body (Err stop) rest = StopsAs body stop

-- some line says this
pub record IsSaid {A : Type 0} (meaning : List ℕ → Result A LineError) (said : A) : Type 0 where
  pub line : List ℕ
  pub is : meaning line ≡ Ok said

-- the first line of these bytes is read as this, and the rest is left
pub record ReadsLine {A : Type 0} (meaning : List ℕ → Result A LineError) (bytes : List ℕ) (read : A) (rest : List ℕ) : Type 0 where
  pub line : List ℕ
  pub given : GivesLine bytes line rest
  pub is : meaning line ≡ Ok read

-- nothing of these bytes is lost, and less than a line of them is ahead of what is left
pub record LeavesLess (bytes ahead left : List ℕ) : Type 0 where
  pub all : ahead ++ left ≡ bytes
  pub less : line_of ahead ≡ ahead

-- The bytes that were taken are those of whole lines, and behind them some without a line feed. What stands behind what was
-- held before is the text of the whole lines. (The last line of an input is whole once the input has shown its end.)
pub record HoldsRead (text : List ℕ → List ℕ) (left_before left_after held_before held_after : List ℕ) : Type 0 where
  pub read : List ℕ
  pub ahead : List ℕ
  pub taken : left_before ≡ read ++ (ahead ++ left_after)
  pub lines : lines_of left_before ≡ lines_of read ++ lines_of (ahead ++ left_after)
  pub less : line_of ahead ≡ ahead
  pub held : held_after ≡ held_before ++ text read

-- reading ends a run by what it read, by a read fault, or out of memory
abbrev pub IsOfReading : Status → Type 0
IsOfReading status.Ok = ⊥
IsOfReading (status.No clause) = ⊥
IsOfReading status.Usage = ⊥
IsOfReading status.WriteFault = ⊥
IsOfReading (status.TooLarge weight) = ⊥
IsOfReading (status.BadRequest at) = ⊥
IsOfReading _ = ⊤

-- writing ends a run by a write fault, or out of memory
abbrev pub IsOfWriting : Status → Type 0
IsOfWriting status.WriteFault = ⊤
IsOfWriting status.NoMemory = ⊤
IsOfWriting _ = ⊥
