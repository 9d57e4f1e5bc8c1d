use Rattle.std.proofs.Common.{refl}
use Rattle.curp_rows.specs.HeaderAlone.{header_alone}
use Rattle.curp_rows.specs.LongestKey.{longest_key}
use Rattle.curp_rows.specs.OnePut.{one_put}
use Rattle.curp_rows.specs.Overflow.{overflow}
use Rattle.curp_rows.specs.SyncedPut.{synced_put}
use Rattle.curp_rows.specs.ThreeWitnesses.{three_witnesses}
use Rattle.curp_rows.specs.TwoBackups.{two_backups}
use Rattle.curp_rows.specs.UpdateDeliveredOften.{update_delivered_often}
use Rattle.curp_rows.proofs.Computed.{everything, by_computing}
use Rattle.curp_rows.proofs.updates_run.Goals as goal

pub returns : goal.returns
unfolding everything
returns c = record {
  header_alone = by_computing header_alone refl;
  one_put = by_computing one_put refl;
  three_witnesses = by_computing three_witnesses refl;
  two_backups = by_computing two_backups refl;
  synced_put = by_computing synced_put refl;
  update_delivered_often = by_computing update_delivered_often refl;
  longest_key = by_computing longest_key refl;
  overflow = by_computing overflow refl;
}
