-- Bytes and numbers as texts of digits.
use Rattle.std.specs.Prelude.{ℕ, ◌+◌, ◌-◌, ◌*◌, ◌/◌, ◌%◌, ◌^◌, ◌==◌, ◌&&◌, ◌||◌, codes, nat_le, nat_lt, if◌then◌else◌, false, List, [], ◌∷◌, length, slice_index, Option, Some, None, option_and_then, option_map, flat_map}
use Rattle.std.specs.Fmt.{digit_glyph}
use Rattle.std.specs.Int.{w64, from_be_bytes}
use Rattle.std.specs.Str.{all_ascii_digits, bytes_eq}
use Rattle.std.specs.Str.Parse.{digits_value}
use Rattle.curp_script.specs.Headers.{is_within}

-- ---- read

-- the value of a digit, 0 to 9 or a to f in lower case
abbrev pub digit_of : ℕ → Option ℕ
digit_of c = if nat_le 48 c && nat_le c 57 then Some (c - 48) else (if nat_le 97 c && nat_le c 102 then Some (c - 87) else None)

-- the byte that two digits write, the higher digit first
abbrev pub byte_of : ℕ → ℕ → Option ℕ
byte_of high low = option_and_then (λ h. option_map (λ l. 16 * h + l) (digit_of low)) (digit_of high)

-- what each two items are together, if all are something
abbrev pub by_twos : {A B : Type 0} → (A → A → Option B) → List A → Option (List B)
by_twos f [] = Some []
by_twos f (a ∷ []) = None
by_twos f (a ∷ b ∷ rest) = option_and_then (λ x. option_map (λ xs. x ∷ xs) (by_twos f rest)) (f a b)

-- two digits for each byte
abbrev pub bytes_of : List ℕ → Option (List ℕ)
bytes_of digits = by_twos byte_of digits

-- a list, if it has no more items than that
abbrev pub at_most : {A : Type 0} → ℕ → List A → Option (List A)
at_most most items = if nat_le (length items) most then Some items else None

-- bytes, if they are no fewer than that
abbrev pub at_least : ℕ → List ℕ → Option (List ℕ)
at_least least bytes = if nat_le least (length bytes) then Some bytes else None

-- a hash, which 16 digits write
abbrev pub hash_of : List ℕ → Option ℕ
hash_of text = option_and_then (λ bytes. if length bytes == 8 then Some (from_be_bytes w64 bytes) else None) (bytes_of text)

-- the number below 2^64 that decimal digits write, with no zero before it
abbrev pub whole_of : List ℕ → Option ℕ
whole_of digits =
    if (is_within 49 57 (slice_index digits 0) || bytes_eq digits (codes "0")) && all_ascii_digits digits && nat_lt (digits_value 10 digits) (2 ^ 64)
    then Some (digits_value 10 digits) else None

-- a number that counts nodes, from 1 to 2^32 - 1
abbrev pub counted : List ℕ → Option ℕ
counted digits = option_and_then (λ n. if is_within 1 (2 ^ 32 - 1) n then Some n else None) (whole_of digits)

-- ---- printed

-- two digits of a byte, in lower case, the higher first
abbrev pub byte_text : ℕ → List ℕ
byte_text byte = digit_glyph false (byte / 16) ∷ digit_glyph false (byte % 16) ∷ []

-- two digits for each byte
abbrev pub hex : List ℕ → List ℕ
hex bytes = flat_map byte_text bytes
