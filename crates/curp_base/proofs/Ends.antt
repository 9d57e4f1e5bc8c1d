-- Numbers that come to no end.
use Rattle.std.proofs.Common.{◌≡◌, ℕ, false, nat_lt, refl, arith}
use Rattle.std.proofs.lemmas.Bool.Decides.{nat_tests}
use Rattle.curp_base.specs.Words.{rises_past}

-- a number that stays doesn't rise
pub never_rises : (last n k : ℕ) → k ≡ n → rises_past last n k ≡ false
never_rises last n k same =
    let test : nat_lt n k ≡ false = grind (arith, nat_tests) in
    rw test refl
