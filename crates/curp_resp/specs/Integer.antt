-- Integers of 64 bits, as Redis reads them.
use Rattle.std.specs.Prelude.{ℕ, ◌-◌, ◌^◌, ◌==◌, ◌&&◌, ◌||◌, nat_le, nat_lt, Bool, false, if◌then◌else◌, List, [], ◌∷◌, length}
use Rattle.std.specs.List.{list_all}
use Rattle.curp_resp.specs.Frames.{is_digit}
use Rattle.curp_resp.specs.Language.{number_behind}

-- these are digits, and behind others of this value they spell a number up to that one
abbrev pub spell_up_to : ℕ → ℕ → List ℕ → Bool
spell_up_to most value digits = list_all is_digit digits && nat_le (number_behind value digits) most

-- digits, the first of which is no zero, spell a number up to this one
abbrev pub is_positive : ℕ → List ℕ → Bool
is_positive most [] = false
is_positive most (first ∷ digits) = nat_lt 48 first && spell_up_to most 0 (first ∷ digits)

-- `0`
abbrev pub is_zero : List ℕ → Bool
is_zero [] = false
is_zero (first ∷ rest) = first == 48 && length rest == 0

-- zero, a positive number, or a negative one behind a minus sign; so it has at most 20 bytes
abbrev pub is_integer : List ℕ → Bool
is_integer [] = false
is_integer (first ∷ rest) =
    nat_lt (length rest) 20
    && (
    if first == 45
    then is_positive (2 ^ 63) rest
    else is_zero (first ∷ rest) || is_positive (2 ^ 63 - 1) (first ∷ rest)
    )
