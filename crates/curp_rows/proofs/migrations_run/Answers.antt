use Rattle.std.proofs.Common.{refl}
use Rattle.curp_rows.specs.MigrationThereAndBack.{migration_there_and_back}
use Rattle.curp_rows.specs.PackageHasFirstNumbers.{package_has_first_numbers}
use Rattle.curp_rows.specs.SplitMulti.{split_multi}
use Rattle.curp_rows.proofs.Computed.{everything, by_computing}
use Rattle.curp_rows.proofs.migrations_run.Goals as goal

pub returns : goal.returns
unfolding everything
returns c = record {
  migration_there_and_back = by_computing migration_there_and_back refl;
  package_has_first_numbers = by_computing package_has_first_numbers refl;
  split_multi = by_computing split_multi refl;
}
