-- Eight bytes as a number.
use Rattle.std.proofs.Common.{◌≡◌, ◌≤◌, ℕ, ◌==◌, List, length, take, Bool, true, false, Option, Some, None, option_and_then, if◌then◌else◌, refl, sym, ap, arith, nat_le}
use Rattle.std.proofs.lemmas.Bool.Decides.{nat_tests}
use Rattle.std.proofs.lemmas.Grind.{common_steps}
use Rattle.std.specs.Bool.{then_some}
use Rattle.std.specs.Int.{w64, from_be_bytes}
use Rattle.curp_script.specs.Digits.{bytes_of, hash_of, at_most}

-- a choice made by tests that agree
chosen : (a b : Bool) (x y : ℕ) → a ≡ b → (a ≡ true → x ≡ y) → then_some a x ≡ (if b then Some y else None)
chosen true true x y tests numbers = ap (λ n. Some n) (numbers refl)
chosen true false x y tests numbers = absurd (cc)
chosen false true x y tests numbers = absurd (cc)
chosen false false x y tests numbers = refl

-- the number of a whole buffer is that of the bytes in front of it, where these are all
same_number : (buffer found : List ℕ) (len : ℕ) → length buffer ≡ 8 → len ≤ 8 → take len buffer ≡ found
    → then_some (len == 8) (from_be_bytes w64 buffer) ≡ (if length found == 8 then Some (from_be_bytes w64 found) else None)
same_number buffer found len size within is =
    let long : length (take len buffer) ≡ len = grind (arith, common_steps) in
    let long_found : length found ≡ len = cc in
    chosen (len == 8) (length found == 8) (from_be_bytes w64 buffer) (from_be_bytes w64 found) (ap (λ n. n == 8) (sym long_found))
    (λ e. ap (from_be_bytes w64) (whole buffer found len size e is))
  where
    whole : (buffer found : List ℕ) (len : ℕ) → length buffer ≡ 8 → (len == 8) ≡ true → take len buffer ≡ found → buffer ≡ found
    whole buffer found len size e is =
        let eight : len ≡ length buffer = grind (arith, nat_tests) in
        let all : take len buffer ≡ buffer = grind (arith, common_steps) in
        cc

-- the bytes in front of a buffer of 8 are those of the text
pub hash_of-decoded : (text buffer : List ℕ) (len : ℕ) → length buffer ≡ 8 → len ≤ 8
    → Some (take len buffer) ≡ option_and_then (at_most 8) (bytes_of text)
    → then_some (len == 8) (from_be_bytes w64 buffer) ≡ hash_of text
hash_of-decoded text buffer len size within is = go (bytes_of text) is
  where
    at : (fits : Bool) (found : List ℕ) → Some (take len buffer) ≡ (if fits then Some found else None)
        → then_some (len == 8) (from_be_bytes w64 buffer) ≡ (if length found == 8 then Some (from_be_bytes w64 found) else None)
    at true found same = same_number buffer found len size within cc
    at false found none = absurd (cc)

    go : (bytes : Option (List ℕ)) → Some (take len buffer) ≡ option_and_then (at_most 8) bytes
        → then_some (len == 8) (from_be_bytes w64 buffer) ≡ option_and_then (λ found. if length found == 8 then Some (from_be_bytes w64 found) else None) bytes
    go None none = absurd (cc)
    go (Some found) some = at (nat_le (length found) 8) found some
