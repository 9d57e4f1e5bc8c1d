-- What std reads of a text of digits.
use Rattle.std.proofs.Common.{◌≡◌, ◌∙◌, ◌<◌, ◌≤◌, ◌^◌, ◌&&◌, ℕ, true, false, refl, sym, ap, List, [], ◌∷◌, length, Some, None, Result, Ok, Err, le-ltb, lt-ltb, le-leb, leb, inl, inr}
use Rattle.std.specs.List.{list_all}
use Rattle.std.specs.Char.{is_ascii_digit}
use Rattle.std.specs.Result.{OkIff, result_ok}
use Rattle.std.specs.Str.{all_ascii_digits}
use Rattle.std.specs.Str.Parse.{ParsesUnsigned, digits_value}
use Rattle.std.proofs.lemmas.Bool.{cases_lt}
use Rattle.std.proofs.lemmas.Str.Parse.{numerals_by_value, parse_digits, tells_all_ascii_digits}
use Rattle.curp_words.specs.Numbers.{number_of}

same_test : (text : List ℕ) → list_all is_ascii_digit text ≡ all_ascii_digits text
same_test [] = refl
same_test (b ∷ bs) = ap (λ rest. is_ascii_digit b && rest) (same_test bs)

is_one : (text : List ℕ) → 0 < length text → length text ≤ 20 → list_all is_ascii_digit text ≡ true → digits_value 10 text < 2 ^ 64
    → number_of text ≡ Some (digits_value 10 text)
is_one text some short digits fits = rw (le-leb 1 (length text) some, le-leb (length text) 20 short, digits, lt-ltb (digits_value 10 text) (2 ^ 64) fits) refl

is_none : (text : List ℕ) → length text ≤ 20 → list_all is_ascii_digit text ≡ true → ((0 < length text) × (digits_value 10 text < 2 ^ 64) → ⊥)
    → None ≡ number_of text
is_none text short digits fails = elim (cases_lt 0 (length text)) [
  | inr nothing ↦ go (leb-false' nothing)
  | inl some ↦ elim (cases_lt (digits_value 10 text) (2 ^ 64)) [
    | inl fits ↦ absurd (fails (some, fits))
    | inr large ↦ rw (le-leb 1 (length text) some, le-leb (length text) 20 short, digits, le-ltb (digits_value 10 text) (2 ^ 64) large) refl
  ]
]
  where
    leb-false' : length text ≤ 0 → leb 1 (length text) ≡ false
    leb-false' h = le-ltb 0 (length text) h

    go : leb 1 (length text) ≡ false → None ≡ number_of text
    go e = rw e refl

-- what is parsed of up to twenty digits is their number
pub parsed : {E : Type 0} (text : List ℕ) (r : Result ℕ E) → length text ≤ 20 → list_all is_ascii_digit text ≡ true → ParsesUnsigned 64 10 text r
    → result_ok r ≡ number_of text
parsed text r short digits parses = go r (parse_digits (numerals_by_value _ tells_all_ascii_digits) 64 text r parses (sym (same_test text) ∙ digits))
  where
    go : {E : Type 0} (r : Result ℕ E) → OkIff r ((0 < length text) × (digits_value 10 text < 2 ^ 64)) (digits_value 10 text) → result_ok r ≡ number_of text
    go (Ok x) h = ap Some h.1 ∙ sym (is_one text h.0.0 short digits h.0.1)
    go (Err e) h = is_none text short digits h
