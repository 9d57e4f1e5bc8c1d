-- The numbers by which the manager's orders are refused, and what each refusal tells beside.
use Rattle.std.proofs.Common.{arith}
use Rattle.std.specs.Prelude.{◌≡◌, ◌≢◌, ℕ, Option, Some, None, ⊤}
use Rattle.curp_model.specs.Manager as model
use Rattle.curp_config.specs.declared.error.NoClient.{NoClient}
use Rattle.curp_config.specs.declared.error.RecoverError.{RecoverError}
use Rattle.curp_config.specs.declared.error.RecoverError.TheVariants as recover
use Rattle.curp_config.specs.declared.error.ReplaceError.{ReplaceError}
use Rattle.curp_config.specs.declared.error.ReplaceError.TheVariants as replace
use Rattle.curp_config.specs.declared.error.MigrateError.{MigrateError}
use Rattle.curp_config.specs.declared.error.MigrateError.TheVariants as migrate

-- ---- the numbers, of which none is 0

-- the number of each reason for which nothing is recovered
abbrev pub recover_number : RecoverError → ℕ
recover_number recover.NoPart = 1
recover_number (recover.NoBackup place) = 2
recover_number (recover.NoWitness place) = 3

pub recover_numbers_refuse : (why : RecoverError) → recover_number why ≢ 0
recover_numbers_refuse recover.NoPart = omega arith
recover_numbers_refuse (recover.NoBackup place) = omega arith
recover_numbers_refuse (recover.NoWitness place) = omega arith

-- the number of each reason for which nothing is replaced
abbrev pub replace_number : ReplaceError → ℕ
replace_number replace.NoPart = 1
replace_number replace.NoPlace = 2
replace_number (replace.Recovering epoch) = 3
replace_number (replace.Replacing version) = 4

pub replace_numbers_refuse : (why : ReplaceError) → replace_number why ≢ 0
replace_numbers_refuse replace.NoPart = omega arith
replace_numbers_refuse replace.NoPlace = omega arith
replace_numbers_refuse (replace.Recovering epoch) = omega arith
replace_numbers_refuse (replace.Replacing version) = omega arith

-- the number of each reason for which nothing moves
abbrev pub migrate_number : MigrateError → ℕ
migrate_number migrate.BadRange = 1
migrate_number migrate.NoPart = 2
migrate_number migrate.SameOwner = 3
migrate_number migrate.SplitOwner = 4
migrate_number (migrate.Moving id) = 5

pub migrate_numbers_refuse : (why : MigrateError) → migrate_number why ≢ 0
migrate_numbers_refuse migrate.BadRange = omega arith
migrate_numbers_refuse migrate.NoPart = omega arith
migrate_numbers_refuse migrate.SameOwner = omega arith
migrate_numbers_refuse migrate.SplitOwner = omega arith
migrate_numbers_refuse (migrate.Moving id) = omega arith

-- the number of the reason for which no client is gone
abbrev pub expire_number : NoClient → ℕ
expire_number no_client = 1

pub expire_numbers_refuse : (why : NoClient) → expire_number why ≢ 0
expire_numbers_refuse no_client = omega arith

-- ---- what a refusal tells beside its number

-- a missing place is the one that was asked for
abbrev pub NamesPlaces : (backup witness : ℕ) → RecoverError → Type 0
NamesPlaces backup witness (recover.NoBackup place) = place ≡ backup
NamesPlaces backup witness (recover.NoWitness place) = place ≡ witness
NamesPlaces backup witness _ = ⊤

-- an attempt at that epoch is being made
abbrev pub RecoversAt : ℕ → Option model.Doing → Type 0
RecoversAt epoch (Some (model.Recovering master order)) = epoch ≡ order.epoch
RecoversAt epoch _ = ⊥

-- lists of that version are in work
abbrev pub ReplacesAt : ℕ → Option model.Doing → Type 0
ReplacesAt version (Some (model.Replacing kind fresh own backups witnesses)) = version ≡ own
ReplacesAt version _ = ⊥

-- what isn't finished is named by the epoch or the version of what is being done with the partition
abbrev pub NamesWork : Option model.Doing → ReplaceError → Type 0
NamesWork doing (replace.Recovering epoch) = RecoversAt epoch doing
NamesWork doing (replace.Replacing version) = ReplacesAt version doing
NamesWork doing _ = ⊤

-- a migration of that number is in work
abbrev pub MovesBy : ℕ → Option model.Migration → Type 0
MovesBy id (Some m) = id ≡ m.number
MovesBy id None = ⊥

-- a migration that isn't finished is named
abbrev pub NamesMigration : Option model.Migration → MigrateError → Type 0
NamesMigration moving (migrate.Moving id) = MovesBy id moving
NamesMigration moving _ = ⊤
