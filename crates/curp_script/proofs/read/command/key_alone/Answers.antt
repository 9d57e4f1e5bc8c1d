use Rattle.std.proofs.Common.{arith}
use Rattle.std.proofs.lemmas.Bool.Decides.{nat_tests}
use Rattle.curp_script.proofs.Parts.{not_alone}
use Rattle.curp_script.proofs.read.command.key_alone.Goals as goal
use Rattle.curp_script.proofs.read.command.key_alone.Goals.{in_default-via-then-parts-lt1, in_default-via-else-parts-lt1+else-parts-lt2}

pub returns-in_default : goal.returns-in_default
returns-in_default c = not_alone c.args.parts.now (elim c.in_default.branch [ in_default-via-then-parts-lt1 w ↦ λ e. grind (arith, nat_tests) | in_default-via-else-parts-lt1+else-parts-lt2 w ↦ λ e. grind (arith, nat_tests) ])
