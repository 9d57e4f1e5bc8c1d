use Rattle.std.proofs.Common.{refl}
use Rattle.curp_rows.specs.LateReadAtASupersededMaster.{late_read_at_a_superseded_master}
use Rattle.curp_rows.specs.ReadAtAnIdleWitness.{read_at_an_idle_witness}
use Rattle.curp_rows.specs.ReadInOneRoundTrip.{read_in_one_round_trip}
use Rattle.curp_rows.specs.ReadOfAnUnsyncedKey.{read_of_an_unsynced_key}
use Rattle.curp_rows.proofs.Computed.{everything, by_computing}
use Rattle.curp_rows.proofs.quick_reads_run.Goals as goal

pub returns : goal.returns
unfolding everything
returns c = record {
  read_in_one_round_trip = by_computing read_in_one_round_trip refl;
  late_read_at_a_superseded_master = by_computing late_read_at_a_superseded_master refl;
  read_of_an_unsynced_key = by_computing read_of_an_unsynced_key refl;
  read_at_an_idle_witness = by_computing read_at_an_idle_witness refl;
}
