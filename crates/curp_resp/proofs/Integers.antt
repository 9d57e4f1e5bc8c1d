-- Digits that spell a number past a bound already, and bytes that are too many for an integer.
use Rattle.std.proofs.Common.{◌≡◌, ℕ, ◌+◌, ◌-◌, ◌*◌, ◌<◌, ◌≤◌, List, [], ◌∷◌, length, refl, arith}
use Rattle.std.proofs.lemmas.Bool.Decides.{nat_tests}
use Rattle.std.specs.Prelude.{◌&&◌, nat_le, nat_lt, Bool, true, false}
use Rattle.std.specs.List.{list_all}
use Rattle.curp_resp.specs.Frames.{is_digit}
use Rattle.curp_resp.specs.Integer.{is_integer, spell_up_to}
use Rattle.curp_resp.specs.Language.{number_behind}
use Rattle.curp_resp.proofs.Numbers.{behind_least}

not_up_to : (n most : ℕ) → most < n → nat_le n most ≡ false
not_up_to n most past = grind (arith, nat_tests)

and_false : (a b : Bool) → b ≡ false → (a && b) ≡ false
and_false true b e = e
and_false false b e = refl

pub spell_past : (most value digit : ℕ) (digits : List ℕ) → most < 10 * value + (digit - 48) → spell_up_to most value (digit ∷ digits) ≡ false
spell_past most value digit digits past =
    and_false (list_all is_digit (digit ∷ digits)) (nat_le (number_behind value (digit ∷ digits)) most)
    (not_up_to (number_behind value (digit ∷ digits)) most (omega (arith, past, behind_least (10 * value + (digit - 48)) digits)))

pub integer_long : (bytes : List ℕ) → 20 < length bytes → is_integer bytes ≡ false
integer_long [] long = refl
integer_long (first ∷ rest) long = rw (not_below (length rest) (omega arith)) refl
  where
    not_below : (n : ℕ) → 20 ≤ n → nat_lt n 20 ≡ false
    not_below n many = grind (arith, nat_tests)
