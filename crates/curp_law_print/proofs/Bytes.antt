-- Bytes that lines are made of.
use Rattle.std.proofs.Common.{◌≡◌, ◌≤◌, ◌<◌, ◌+◌, ◌*◌, ◌/◌, ◌%◌, ◌^◌, ◌==◌, ℕ, List, [], ◌∷◌, ◌++◌, length, Bool, true, false, ◌&&◌, not, nat_lt, IsUtf8, decimal, refl, sym, ap, ap₂, subst, arith, length-append}
use Rattle.std.proofs.lemmas.Bool.{and_from, and_parts}
use Rattle.std.proofs.lemmas.Bool.Decides.{nat_tests}
use Rattle.std.proofs.lemmas.Fmt.{decimal_is_IsNumeral, length-decimal-le}
use Rattle.std.proofs.lemmas.List.Elements.{All-from_recursion, All-head, All-tail}
use Rattle.std.proofs.lemmas.Str.Parse.{digit_from_value}
use Rattle.std.specs.Fmt.{digit_glyph}
use Rattle.std.specs.Int.{w64, to_be_bytes}
use Rattle.std.specs.Prelude.{nat_le}
use Rattle.std.specs.Str.Parse.{AllDigits}
use Rattle.json.proofs.Printed.Strings.{escape_byte_plain}
use Rattle.json.proofs.Printed.Utf8.{are_ascii, IsUtf8-are_ascii}
use Rattle.json.specs.Print.{escape, quoted}
use Rattle.curp_base.specs.Words.{AreBytes}
use Rattle.curp_script.specs.Digits.{byte_text, hex}

-- ASCII, and no control
abbrev pub is_shown : ℕ → Bool
is_shown byte = nat_le 32 byte && nat_lt byte 128

-- each is
abbrev pub are_shown : List ℕ → Bool
are_shown [] = true
are_shown (byte ∷ bytes) = is_shown byte && are_shown bytes

-- shown, and with no escape in a text of JSON
abbrev pub is_clear : ℕ → Bool
is_clear byte = is_shown byte && (not (byte == 34) && not (byte == 92))

-- each is
abbrev pub are_clear : List ℕ → Bool
are_clear [] = true
are_clear (byte ∷ bytes) = is_clear byte && are_clear bytes

pub shown_append : (xs ys : List ℕ) → are_shown xs ≡ true → are_shown ys ≡ true → are_shown (xs ++ ys) ≡ true
shown_append [] ys first second = second
shown_append (x ∷ xs) ys first second =
    let parts = and_parts (is_shown x) (are_shown xs) first in
    and_from (is_shown x) (are_shown (xs ++ ys)) parts.0 (shown_append xs ys parts.1 second)

pub clear_append : (xs ys : List ℕ) → are_clear xs ≡ true → are_clear ys ≡ true → are_clear (xs ++ ys) ≡ true
clear_append [] ys first second = second
clear_append (x ∷ xs) ys first second =
    let parts = and_parts (is_clear x) (are_clear xs) first in
    and_from (is_clear x) (are_clear (xs ++ ys)) parts.0 (clear_append xs ys parts.1 second)

pub shown_clear : (xs : List ℕ) → are_clear xs ≡ true → are_shown xs ≡ true
shown_clear [] clear = refl
shown_clear (x ∷ xs) clear =
    let parts = and_parts (is_clear x) (are_clear xs) clear in
    let first = and_parts (is_shown x) (not (x == 34) && not (x == 92)) parts.0 in
    and_from (is_shown x) (are_shown xs) first.0 (shown_clear xs parts.1)

ascii_shown : (xs : List ℕ) → are_shown xs ≡ true → are_ascii xs ≡ true
ascii_shown [] shown = refl
ascii_shown (x ∷ xs) shown =
    let parts = and_parts (is_shown x) (are_shown xs) shown in
    let first = and_parts (nat_le 32 x) (nat_lt x 128) parts.0 in
    and_from (nat_lt x 128) (are_ascii xs) first.1 (ascii_shown xs parts.1)

pub utf8_shown : (xs : List ℕ) → are_shown xs ≡ true → IsUtf8 xs
utf8_shown xs shown = IsUtf8-are_ascii xs (ascii_shown xs shown)

-- ---- texts of JSON

escape_clear : (xs : List ℕ) → are_clear xs ≡ true → escape xs ≡ xs
escape_clear [] clear = refl
escape_clear (x ∷ xs) clear =
    let parts = and_parts (is_clear x) (are_clear xs) clear in
    let low : 32 ≤ x = grind (arith, nat_tests, parts.0) in
    let one = escape_byte_plain x (λ e. grind (arith, nat_tests, parts.0)) (λ e. grind (arith, nat_tests, parts.0)) low in
    ap₂ (λ (a b : List ℕ). a ++ b) one (escape_clear xs parts.1)

pub quoted_clear : (xs : List ℕ) → are_clear xs ≡ true → quoted xs ≡ 34 ∷ (xs ++ 34 ∷ [])
quoted_clear xs clear = ap (λ (s : List ℕ). 34 ∷ (s ++ 34 ∷ [])) (escape_clear xs clear)

pub quoted_shown : (xs : List ℕ) → are_clear xs ≡ true → are_shown (quoted xs) ≡ true
quoted_shown xs clear =
    subst (λ (text : List ℕ). are_shown text ≡ true) (sym (quoted_clear xs clear)) (shown_append xs (34 ∷ []) (shown_clear xs clear) refl)

pub quoted_length : (xs : List ℕ) → are_clear xs ≡ true → length (quoted xs) ≡ length xs + 2
quoted_length xs clear = omega (arith, ap length (quoted_clear xs clear), length-append xs (34 ∷ []))

-- ---- numbers

digits_clear : (xs : List ℕ) → AllDigits 10 xs → are_clear xs ≡ true
digits_clear [] all = refl
digits_clear (x ∷ xs) all =
    let digit = digit_from_value x all.0 in
    let first : is_clear x ≡ true = grind (arith, nat_tests, digit) in
    and_from (is_clear x) (are_clear xs) first (digits_clear xs all.1)

pub decimal_clear : (n : ℕ) → n < 2 ^ 64 → are_clear (decimal n) ≡ true
decimal_clear n small = digits_clear (decimal n) (decimal_is_IsNumeral n small).0.1

pub decimal_shown : (n : ℕ) → n < 2 ^ 64 → are_shown (decimal n) ≡ true
decimal_shown n small = shown_clear (decimal n) (decimal_clear n small)

pub decimal_short : (n : ℕ) → n < 2 ^ 64 → length (decimal n) ≤ 20
decimal_short n small = length-decimal-le 20 n (omega arith) (omega arith) small

-- ---- digits of bytes

glyph_clear : (value : ℕ) → value < 16 → is_clear (digit_glyph false value) ≡ true
glyph_clear value small = grind (arith, nat_tests)

text_clear : (byte : ℕ) → byte < 256 → are_clear (byte_text byte) ≡ true
text_clear byte small = rw (glyph_clear (byte / 16) (omega arith), glyph_clear (byte % 16) (omega arith)) refl

pub hex_clear : (bytes : List ℕ) → AreBytes bytes → are_clear (hex bytes) ≡ true
hex_clear [] small = refl
hex_clear (byte ∷ bytes) small =
    clear_append (byte_text byte) (hex bytes) (text_clear byte (All-head (λ b. b < 256) byte bytes small))
    (hex_clear bytes (All-tail (λ b. b < 256) byte bytes small))

pub hex_length : (bytes : List ℕ) → length (hex bytes) ≡ 2 * length bytes
hex_length [] = refl
hex_length (byte ∷ bytes) = omega (arith, hex_length bytes, length-append (byte_text byte) (hex bytes))

byte_small : (n : ℕ) → n % 256 < 256
byte_small n = omega arith

-- a hash is 8 bytes
pub hash_small : (hash : ℕ) → AreBytes (to_be_bytes w64 hash)
hash_small hash =
    All-from_recursion (λ b. b < 256) (to_be_bytes w64 hash)
    (byte_small _, (byte_small _, (byte_small _, (byte_small _, (byte_small _, (byte_small _, (byte_small _, (byte_small _, tt))))))))
