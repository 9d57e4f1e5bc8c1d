-- The requests of Redis' protocol as bytes: arrays of bulk strings, and empty lines (this project's own bounds).
use Rattle.std.specs.Prelude.{◌≡◌, ◌⊎◌, ℕ, ◌+◌, ◌-◌, ◌*◌, ◌≤◌, codes, List, [], ◌∷◌, ◌++◌, length}
use Rattle.curp_base.specs.Words.{Each}

-- ---- bytes

-- `*`
abbrev pub star : ℕ
star = 42

-- `$`
abbrev pub dollar : ℕ
dollar = 36

-- CR
abbrev pub carriage_return : ℕ
carriage_return = 13

-- LF
abbrev pub line_feed : ℕ
line_feed = 10

-- the bytes, CR LF, and the rest
abbrev pub line_before : List ℕ → List ℕ → List ℕ
line_before bytes rest = bytes ++ (carriage_return ∷ line_feed ∷ rest)

-- ---- numbers

-- `0` to `9`
abbrev pub IsDigit : ℕ → Type 0
IsDigit byte = (48 ≤ byte) × (byte ≤ 57)

-- the number that digits spell behind others of this value
abbrev pub number_behind : ℕ → List ℕ → ℕ
number_behind value [] = value
number_behind value (digit ∷ digits) = number_behind (10 * value + (digit - 48)) digits

-- one to five decimal digits spell a number up to this one; zeros in front are digits as any
pub record IsNumber (most : ℕ) (digits : List ℕ) (number : ℕ) : Type 0 where
  pub some : 1 ≤ length digits
  pub few : length digits ≤ 5
  pub decimal : Each IsDigit digits
  pub value : number_behind 0 digits ≡ number
  pub within : number ≤ most

-- ---- requests

-- `$len` and a line's end, so many bytes, and a line's end
pub record IsBulk (spelled bytes : List ℕ) : Type 0 where
  pub digits : List ℕ
  pub size : IsNumber 65536 digits (length bytes)
  pub is : dollar ∷ line_before digits (line_before bytes []) ≡ spelled

-- a bulk string of these bytes, and such a rest
pub record BeginsWithBulk (IsRest : List ℕ → Type 0) (spelled bytes : List ℕ) : Type 0 where
  pub bulk : List ℕ
  pub rest : List ℕ
  pub first : IsBulk bulk bytes
  pub behind : IsRest rest
  pub is : bulk ++ rest ≡ spelled

-- bulk strings of these arguments, one behind the other
abbrev pub AreBulks : List (List ℕ) → List ℕ → Type 0
AreBulks [] spelled = spelled ≡ []
AreBulks (bytes ∷ arguments) spelled = BeginsWithBulk (AreBulks arguments) spelled bytes

-- `*n` and a line's end, and so many bulk strings, the arguments
pub record IsArray (spelled : List ℕ) (arguments : List (List ℕ)) : Type 0 where
  pub digits : List ℕ
  pub bulks : List ℕ
  pub count : IsNumber 64 digits (length arguments)
  pub each : AreBulks arguments bulks
  pub is : star ∷ line_before digits bulks ≡ spelled

-- an empty line, which may lack its carriage return, or the array that is none
abbrev pub IsEmpty : List ℕ → Type 0
IsEmpty spelled =
    (spelled ≡ line_feed ∷ []) ⊎ (spelled ≡ line_before [] []) ⊎ (spelled ≡ star ∷ line_before (codes "-1") [])

-- an array, or what stands for no arguments
abbrev pub IsRequest : List ℕ → List (List ℕ) → Type 0
IsRequest spelled arguments = IsArray spelled arguments ⊎ ((arguments ≡ []) × IsEmpty spelled)

-- some request begins with these bytes
pub record IsViablePrefix (bytes : List ℕ) : Type 0 where
  pub rest : List ℕ
  pub arguments : List (List ℕ)
  pub request : IsRequest (bytes ++ rest) arguments
