-- Lines of bytes.
use Rattle.std.specs.Prelude.{◌≡◌, ◌≢◌, ℕ, ◌<◌, ◌≤◌, ◌==◌, List, [], ◌∷◌, length, if◌then◌else◌, Option, Some, None}
use Rattle.curp_base.specs.Limits.{line_limit}
use Rattle.curp_io.specs.Streams.{one_more}
use Rattle.curp_io.specs.declared.lines.NextLine.{NextLine}
use Rattle.curp_io.specs.declared.lines.NextLine.TheVariants as answer

-- the first line: the bytes before the first line feed, or all
abbrev pub line_of : List ℕ → List ℕ
line_of [] = []
line_of (byte ∷ bytes) = if byte == 10 then [] else byte ∷ line_of bytes

-- what follows the first line and its line feed
abbrev pub rest_of : List ℕ → List ℕ
rest_of [] = []
rest_of (byte ∷ bytes) = if byte == 10 then bytes else rest_of bytes

-- the lines with this byte before the first of them; it is a line by itself where there is none
abbrev pub begin_first : ℕ → List (List ℕ) → List (List ℕ)
begin_first byte [] = (byte ∷ []) ∷ []
begin_first byte (line ∷ lines) = (byte ∷ line) ∷ lines

-- the lines of a text: each ends at a line feed, which isn't part of it, and the last may end with the text
abbrev pub lines_of : List ℕ → List (List ℕ)
lines_of [] = []
lines_of (byte ∷ bytes) = if byte == 10 then [] ∷ lines_of bytes else begin_first byte (lines_of bytes)

-- the bytes read ahead of the lines given, the last line given, how many lines were given, and the answer that repeats
pub record Progress : Type 0 where
  pub ahead : List ℕ
  pub line : List ℕ
  pub number : ℕ
  pub failed : Option NextLine

-- before the first call
abbrev pub nothing_read : Progress
nothing_read = record { ahead = []; line = []; number = 0; failed = None }

-- the first line was given, and the rest is left
pub record GivesLine (bytes line rest : List ℕ) : Type 0 where
  pub more : bytes ≢ []
  pub first : line ≡ line_of bytes
  pub left : rest ≡ rest_of bytes
  pub short : length line ≤ line_limit

-- the first line has this number and is longer than a line may be; all bytes are left
pub record RefusesLine (number : ℕ) (bytes rest : List ℕ) (at : ℕ) : Type 0 where
  pub numbered : at ≡ one_more number
  pub long : line_limit < length (line_of bytes)
  pub left : rest ≡ bytes

-- What an answer says of the bytes that were due, of the line and of the bytes that are now left, where this many
-- lines were given before. A fault leaves all bytes.
abbrev pub IsNextLine : ℕ → List ℕ → NextLine → List ℕ → List ℕ → Type 0
IsNextLine number bytes answer.Line line rest = GivesLine bytes line rest
IsNextLine number bytes answer.End line rest = (bytes ≡ []) × (rest ≡ [])
IsNextLine number bytes answer.ReadFault line rest = rest ≡ bytes
IsNextLine number bytes (answer.TooLong at) line rest = RefusesLine number bytes rest at

-- how many lines were given after this answer
abbrev pub number_after : ℕ → NextLine → ℕ
number_after number answer.Line = one_more number
number_after number answer.End = number
number_after number answer.ReadFault = number
number_after number (answer.TooLong at) = number

-- what every later call answers after this answer, if it repeats
abbrev pub repeated : NextLine → Option NextLine
repeated answer.Line = None
repeated answer.End = None
repeated answer.ReadFault = Some answer.ReadFault
repeated (answer.TooLong at) = Some (answer.TooLong at)
