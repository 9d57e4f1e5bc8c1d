-- A decimal number, read digit by digit.
use Rattle.std.proofs.Common.{◌≡◌, ◌||◌, codes, decimal, sym, ◌≤◌, ◌<◌, ◌+◌, ◌-◌, ◌*◌, ◌^◌, ℕ, zero, suc, List, [], ◌∷◌, length, take, Bool, true, false, ◌&&◌, Some, None, slice_index, slice_index_or, nat_lt, if◌then◌else◌, refl, ap, arith}
use Rattle.std.proofs.lemmas.Bool.Decides.{nat_tests}
use Rattle.std.proofs.lemmas.Slice.Eq.{bytes_eq-Decides}
use Rattle.std.proofs.lemmas.Int.Digits.{digits_value_more}
use Rattle.std.proofs.lemmas.Str.Parse.{IsNumeralModel, numerals_by_value, tells_all_ascii_digits, digits_value-take-le, digit_at}
use Rattle.std.proofs.lemmas.Fmt.{first_decimal, decimal_is_IsNumeral, decimal-digits_value}
use Rattle.std.specs.Char.{is_ascii_digit, digit_value}
use Rattle.std.specs.Str.{all_ascii_digits, bytes_eq}
use Rattle.std.specs.Str.Parse.{AllDigits, digits_value}
use Rattle.curp_script.specs.Digits.{whole_of}
use Rattle.curp_script.specs.Headers.{is_within}

pub decimals : IsNumeralModel (λ ds. all_ascii_digits ds ≡ true) (digits_value 10)
decimals = numerals_by_value _ tells_all_ascii_digits

and_false : (b : Bool) → (b && false) ≡ false
and_false true = refl
and_false false = refl

-- one that is no digit is enough
not_all : (digits : List ℕ) (k : ℕ) → k < length digits → is_ascii_digit (slice_index_or digits k 0) ≡ false → all_ascii_digits digits ≡ false
not_all [] k within other = absurd (omega arith)
not_all (digit ∷ digits) zero within other = rw other refl
not_all (digit ∷ digits) (suc k) within other = rw (not_all digits k (omega arith) other) (and_false (is_ascii_digit digit))

unless : (all fits : Bool) (n : ℕ) → all ≡ false → None ≡ (if all && fits then Some n else None)
unless all fits n is = rw is refl

-- where one is no digit, there is no number
pub value_of-not_digit : (digits : List ℕ) (k : ℕ) → k < length digits → is_ascii_digit (slice_index_or digits k 0) ≡ false
    → None ≡ (if all_ascii_digits digits && nat_lt (digits_value 10 digits) (2 ^ 64) then Some (digits_value 10 digits) else None)
value_of-not_digit digits k within other = unless _ _ _ (not_all digits k within other)

unless_fits : (all fits : Bool) (n : ℕ) → fits ≡ false → None ≡ (if all && fits then Some n else None)
unless_fits true fits n is = rw is refl
unless_fits false fits n is = refl

pub not_below : (n m : ℕ) → m ≤ n → nat_lt n m ≡ false
not_below n m most = grind (arith, nat_tests)

-- where the first digits are too large a number, all are
pub value_of-too_large : (digits : List ℕ) (k : ℕ) → 2 ^ 64 - 1 < digits_value 10 (take k digits)
    → None ≡ (if all_ascii_digits digits && nat_lt (digits_value 10 digits) (2 ^ 64) then Some (digits_value 10 digits) else None)
value_of-too_large digits k large =
    let more : digits_value 10 (take k digits) ≤ digits_value 10 digits = digits_value-take-le 10 digits k (omega arith) in
    unless_fits (all_ascii_digits digits) _ (digits_value 10 digits) (not_below (digits_value 10 digits) (2 ^ 64) (omega arith))

-- what a digit is worth
pub worth : (c : ℕ) → is_ascii_digit c ≡ true → (digit_value c < 10) × (digit_value c ≡ c - 48)
worth c is = grind (arith, nat_tests)

-- one more digit is worth ten times what stands before it, and itself
pub one_digit_more : (digits : List ℕ) (k n : ℕ) → k < length digits → is_ascii_digit (slice_index_or digits k 0) ≡ true
    → n ≡ digits_value 10 (take k digits) → 10 * n + (slice_index_or digits k 0 - 48) ≡ digits_value 10 (take (k + 1) digits)
one_digit_more digits k n within is value =
    let digit : digit_value (slice_index_or digits k 0) ≡ slice_index_or digits k 0 - 48 = (worth _ is).1 in
    let more : digits_value 10 (take (k + 1) digits) ≡ digits_value 10 (take k digits) * 10 + digit_value (slice_index_or digits k 0) = digits_value_more 10 digits k within in
    omega arith

-- digits all along, and small enough
pub value_of-digits : (digits : List ℕ) (n : ℕ) → AllDigits 10 digits → n ≡ digits_value 10 digits → n < 2 ^ 64
    → Some n ≡ (if all_ascii_digits digits && nat_lt (digits_value 10 digits) (2 ^ 64) then Some (digits_value 10 digits) else None)
value_of-digits digits n all value fits =
    let digits_all : all_ascii_digits digits ≡ true = decimals.from digits all in
    let small : nat_lt (digits_value 10 digits) (2 ^ 64) ≡ true = grind (arith, nat_tests) in
    rw (digits_all, small, value) refl

-- what is printed for a number that is not 0 is read as it
pub whole_of-decimal : (n : ℕ) → 0 < n → n < 2 ^ 64 → whole_of (decimal n) ≡ Some n
whole_of-decimal n some small =
    let numeral = decimal_is_IsNumeral n small in
    let low : 48 < slice_index (decimal n) 0 = first_decimal n some small in
    let digit = digit_at (decimal n) 0 numeral.0.1 numeral.0.0 in
    let first : is_within 49 57 (slice_index (decimal n) 0) ≡ true = grind (arith, nat_tests, digit) in
    rw first (sym (value_of-digits (decimal n) n numeral.0.1 (sym numeral.1) small))

-- only what is printed for a number is read as one
pub decimal-whole_of : (digits : List ℕ) (n : ℕ) → Some n ≡ whole_of digits → (decimal n ≡ digits) × (n < 2 ^ 64)
decimal-whole_of [] n is = absurd cc
decimal-whole_of (c ∷ cs) n is =
    by (is_within 49 57 c) (bytes_eq (c ∷ cs) (codes "0")) (all_ascii_digits (c ∷ cs)) (nat_lt (digits_value 10 (c ∷ cs)) (2 ^ 64)) refl refl refl refl is
  where
    printed : (digits_value 10 (c ∷ cs) < 2 ^ 64) → all_ascii_digits (c ∷ cs) ≡ true → (c ≡ 48 → length (c ∷ cs) ≡ 1) → Some n ≡ Some (digits_value 10 (c ∷ cs))
        → (decimal n ≡ c ∷ cs) × (n < 2 ^ 64)
    printed small all alone is =
        let same : n ≡ digits_value 10 (c ∷ cs) = cc in
        rw same (decimal-digits_value decimals (c ∷ cs) all (omega arith) alone small, small)

    by : (high zero_alone all small : Bool) → is_within 49 57 c ≡ high → bytes_eq (c ∷ cs) (codes "0") ≡ zero_alone → all_ascii_digits (c ∷ cs) ≡ all
        → nat_lt (digits_value 10 (c ∷ cs)) (2 ^ 64) ≡ small
        → Some n ≡ (if (high || zero_alone) && all && small then Some (digits_value 10 (c ∷ cs)) else None) → (decimal n ≡ c ∷ cs) × (n < 2 ^ 64)
    by true zero_alone true true first same all small is =
        printed (grind (arith, nat_tests)) all (λ e. let low : is_within 49 57 c ≡ false = grind (arith, nat_tests) in absurd cc) is
    by false true true true first same all small is = printed (grind (arith, nat_tests)) all (λ e. ap length ((bytes_eq-Decides (c ∷ cs) (codes "0")).0 same)) is
    by true zero_alone true false first same all small is = absurd cc
    by true zero_alone false small' first same all small is = absurd cc
    by false true true false first same all small is = absurd cc
    by false true false small' first same all small is = absurd cc
    by false false all' small' first same all small is = absurd cc
