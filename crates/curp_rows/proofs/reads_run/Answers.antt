use Rattle.std.proofs.Common.{refl}
use Rattle.curp_rows.specs.ReadAtASupersededMaster.{read_at_a_superseded_master}
use Rattle.curp_rows.specs.ReadByARound.{read_by_a_round}
use Rattle.curp_rows.proofs.Computed.{everything, by_computing}
use Rattle.curp_rows.proofs.reads_run.Goals as goal

pub returns : goal.returns
unfolding everything
returns c = record {
  read_by_a_round = by_computing read_by_a_round refl;
  read_at_a_superseded_master = by_computing read_at_a_superseded_master refl;
}
