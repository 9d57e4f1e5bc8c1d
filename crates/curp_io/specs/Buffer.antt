-- What a buffer of lines does with the bytes of a source.
use Rattle.std.specs.Prelude.{◌≡◌, ◌≢◌, ℕ, ◌+◌, ◌<◌, ◌≤◌, List, [], ◌++◌, length, take, drop, ⊤}
use Rattle.curp_base.specs.Limits.{line_limit}
use Rattle.curp_base.specs.Words.{IsPrefix}
use Rattle.curp_io.specs.Text.{line_of, rest_of}
use Rattle.curp_io.specs.declared.source.Taken.{Taken}
use Rattle.curp_io.specs.declared.source.Taken.TheVariants as taken
use Rattle.curp_io.specs.declared.window.Found.{Found}
use Rattle.curp_io.specs.declared.window.Found.TheVariants as found

-- the first line feed stands at this place
pub record IsFeedPlace (bytes : List ℕ) (place : ℕ) : Type 0 where
  pub within : place < length bytes
  pub line : line_of bytes ≡ take place bytes
  pub rest : rest_of bytes ≡ drop (place + 1) bytes

-- so many bytes were read behind those ahead
pub record AddsBytes (old new : List ℕ) (n : ℕ) : Type 0 where
  pub prefix : IsPrefix old new
  pub len : length new ≡ length old + n
  pub room : length new ≤ line_limit + 1

abbrev pub Adds : List ℕ → List ℕ → Taken → Type 0
Adds old new (taken.Bytes n) = AddsBytes old new n
Adds old new taken.Failed = new ≡ old

-- the bytes of a line that was found stand ahead, and a line has no more than the limit
abbrev pub IsWithin : Found → List ℕ → Type 0
IsWithin (found.Line n) ahead = (n ≤ length ahead) × (n ≤ line_limit)
IsWithin found.End ahead = ⊤
IsWithin found.ReadFault ahead = ⊤
IsWithin found.TooLong ahead = ⊤

-- the first n bytes ahead are the first line, and what follows the next byte is the rest
pub record FindsLine (bytes ahead left : List ℕ) (n : ℕ) : Type 0 where
  pub more : bytes ≢ []
  pub line : line_of bytes ≡ take n ahead
  pub rest : rest_of bytes ≡ drop (n + 1) ahead ++ left

-- what was found at the start of the bytes ahead and left
abbrev pub Finds : List ℕ → Found → List ℕ → List ℕ → Type 0
Finds bytes (found.Line n) ahead left = FindsLine bytes ahead left n
Finds bytes found.End ahead left = (bytes ≡ []) × (ahead ++ left ≡ [])
Finds bytes found.ReadFault ahead left = ahead ++ left ≡ bytes
Finds bytes found.TooLong ahead left = (line_limit < length (line_of bytes)) × (ahead ++ left ≡ bytes)
