use Rattle.std.proofs.Common.{refl}
use Rattle.curp_rows.specs.GrowingRounds.{growing_rounds}
use Rattle.curp_rows.proofs.Computed.{everything, by_computing}
use Rattle.curp_rows.proofs.long_run.Goals as goal

pub returns : goal.returns
unfolding everything
returns c = record {
  growing_rounds = by_computing growing_rounds refl;
}
