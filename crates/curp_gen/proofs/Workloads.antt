-- How long a workload is.
use Rattle.std.proofs.Common.{◌≡◌, ℕ, zero, suc, length, refl, ap}
use Rattle.rand_pcg.specs.Lcg.{Lcg}
use Rattle.curp_gen.specs.Commands.{made_command, made_commands, workload_of}
use Rattle.curp_gen.specs.Draws.{generator}

length-made : (count : ℕ) (words : Lcg) → length (made_commands count words) ≡ count
unfolding made_commands
length-made zero words = refl
length-made (suc count) words = ap suc (length-made count (made_command words).1)

pub length-workload : (number client count : ℕ) → length (workload_of number client count) ≡ count
length-workload number client count = length-made count (generator number client)
