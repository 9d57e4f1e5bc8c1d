use Rattle.std.proofs.Common.{arith}
use Rattle.std.proofs.lemmas.Bool.Decides.{nat_tests}
use Rattle.curp_script.proofs.Parts.{no_triple}
use Rattle.curp_script.proofs.read.command.cond_put_of.Goals as goal
use Rattle.curp_script.proofs.read.command.cond_put_of.Goals.{in_default-via-then-parts-lt3, in_default-via-else-parts-lt3+else-parts-lt4}

pub returns-in_default : goal.returns-in_default
returns-in_default c = no_triple c.args.parts.now (elim c.in_default.branch [ in_default-via-then-parts-lt3 w ↦ λ e. grind (arith, nat_tests) | in_default-via-else-parts-lt3+else-parts-lt4 w ↦ λ e. grind (arith, nat_tests) ])
