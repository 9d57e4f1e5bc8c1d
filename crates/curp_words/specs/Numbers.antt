-- Numbers among the words.
use Rattle.std.specs.Prelude.{◌^◌, ◌&&◌, ℕ, Bool, List, Option, Some, None, if◌then◌else◌, option_and_then, length, nat_le, nat_lt}
use Rattle.std.specs.List.{list_all}
use Rattle.std.specs.Str.Parse.{digits_value}
use Rattle.std.specs.Char.{is_ascii_digit}

-- one to twenty decimal digits
abbrev pub is_number : List ℕ → Bool
is_number text = nat_le 1 (length text) && (nat_le (length text) 20 && list_all is_ascii_digit text)

-- their number, below 2^64
abbrev pub number_of : List ℕ → Option ℕ
number_of text = if is_number text && nat_lt (digits_value 10 text) (2 ^ 64) then Some (digits_value 10 text) else None

-- the number, where it is in range, both ends with it
abbrev pub within : ℕ → ℕ → ℕ → Option ℕ
within least most number = if nat_le least number && nat_le number most then Some number else None

-- the number that an option's value is, or the one that it is where the option isn't given
abbrev pub number_within : ℕ → ℕ → ℕ → Option (List ℕ) → Option ℕ
number_within least most default None = Some default
number_within least most default (Some text) = option_and_then (within least most) (number_of text)
