use Rattle.std.proofs.Common.{length, ap, arith}
use Rattle.curp_play.proofs.Claims.{nothing_seen}
use Rattle.curp_play.proofs.history.RecorderPlayer.open.Goals as goal

pub returns-clause-fits : goal.returns-clause-fits
returns-clause-fits c = omega (arith, ap length (nothing_seen c.args.header.now _ c.in_ok-world.ensures))
