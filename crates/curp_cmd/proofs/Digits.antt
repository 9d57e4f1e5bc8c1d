-- The digits of a number, the last one behind the others: for `write_decimal`.
use Rattle.std.proofs.Common.{◌≡◌, ◌+◌, ◌≤◌, ◌<◌, ◌/◌, ◌%◌, ◌^◌, ℕ, List, [], ◌∷◌, ◌++◌, sym}
use Rattle.std.proofs.lemmas.Fmt.{decimal_digit, decimal_step}
use Rattle.std.specs.Fmt.{decimal}

pub one_digit : (n : ℕ) → n < 10 → (48 + n) ∷ [] ≡ decimal n
one_digit n small = sym (decimal_digit n small)

pub last_digit : (n : ℕ) → 10 ≤ n → n < 2 ^ 64 → decimal (n / 10) ++ ((48 + n % 10) ∷ []) ≡ decimal n
last_digit n large word = sym (decimal_step n large word)
