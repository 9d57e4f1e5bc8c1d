use Rattle.std.proofs.Common.{refl}
use Rattle.curp_rows.specs.RecoveryGivesUpAReplacement.{recovery_gives_up_a_replacement}
use Rattle.curp_rows.specs.ReplaceAWitness.{replace_a_witness}
use Rattle.curp_rows.specs.StoppedBackupReplaced.{stopped_backup_replaced}
use Rattle.curp_rows.proofs.Computed.{everything, by_computing}
use Rattle.curp_rows.proofs.replacements_run.Goals as goal

pub returns : goal.returns
unfolding everything
returns c = record {
  replace_a_witness = by_computing replace_a_witness refl;
  recovery_gives_up_a_replacement = by_computing recovery_gives_up_a_replacement refl;
  stopped_backup_replaced = by_computing stopped_backup_replaced refl;
}
