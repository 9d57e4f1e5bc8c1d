use Rattle.std.proofs.Common.{refl}
use Rattle.curp_rows.specs.CollectionAndSuspects.{collection_and_suspects}
use Rattle.curp_rows.specs.Conflict.{conflict}
use Rattle.curp_rows.specs.FullSet.{full_set}
use Rattle.curp_rows.specs.FullSetAndSync.{full_set_and_sync}
use Rattle.curp_rows.proofs.Computed.{everything, by_computing}
use Rattle.curp_rows.proofs.conflicts_run.Goals as goal

pub returns : goal.returns
unfolding everything
returns c = record {
  conflict = by_computing conflict refl;
  full_set = by_computing full_set refl;
  full_set_and_sync = by_computing full_set_and_sync refl;
  collection_and_suspects = by_computing collection_and_suspects refl;
}
