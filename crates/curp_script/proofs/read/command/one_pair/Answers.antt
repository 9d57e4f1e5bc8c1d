use Rattle.std.proofs.Common.{arith}
use Rattle.std.proofs.lemmas.Bool.Decides.{nat_tests}
use Rattle.curp_script.proofs.Parts.{no_pair}
use Rattle.curp_script.proofs.read.command.one_pair.Goals as goal
use Rattle.curp_script.proofs.read.command.one_pair.Goals.{in_default-via-then-parts-lt2, in_default-via-else-parts-lt2+else-parts-lt3}

pub returns-in_default : goal.returns-in_default
returns-in_default c = no_pair c.args.parts.now (elim c.in_default.branch [ in_default-via-then-parts-lt2 w ↦ λ e. grind (arith, nat_tests) | in_default-via-else-parts-lt2+else-parts-lt3 w ↦ λ e. grind (arith, nat_tests) ])
