-- What orders come to, once it is known whether they are refused and whether a number ends.
use Rattle.std.proofs.Common.{◌≡◌, ℕ, ◌+◌, true, false, Ok, Err, Result, Option, refl, ap, ◌∙◌}
use Rattle.std.specs.Result.{IfErr, IsErr, IsErrAnd}
use Rattle.curp_base.specs.declared.failed.Failed.{Failed}
use Rattle.curp_base.specs.declared.failed.Failed.TheVariants as failed
use Rattle.curp_cmd.specs.declared.node.Keeper.{Keeper}
use Rattle.curp_msg.specs.Moved.{Moved, quiet, refuses, unless_refused}
use Rattle.curp_base.specs.Failing.{IfBecause}
use Rattle.curp_msg.specs.Told.{Tells}
use Rattle.curp_msg.specs.declared.body.Recover.{Recover}
use Rattle.curp_msg.specs.declared.config.PartConfig.{PartConfig}
use Rattle.curp_msg.specs.declared.machine.Local.TheVariants as local
use Rattle.curp_model.specs.Manager as model
use Rattle.curp_model.specs.Manager.{ManagerState, counter_ends, manager_ordered, unless_numbers_end}
use Rattle.curp_config.proofs.Ends.{counter_stops, goes_on, stands}
use Rattle.curp_config.specs.Refusals.{NamesMigration, NamesPlaces, NamesWork, expire_number, migrate_number, recover_number, replace_number}
use Rattle.curp_config.specs.declared.error.NoClient.{NoClient}
use Rattle.curp_config.specs.declared.error.MigrateError.{MigrateError}
use Rattle.curp_config.specs.declared.error.RecoverError.{RecoverError}
use Rattle.curp_config.specs.declared.error.ReplaceError.{ReplaceError}

-- what isn't refused, and by which no number ends
ordered_goes_on : {A : Type 0} (g : ManagerState) (act : A → Moved ManagerState) (r : Result A ℕ) (x : A) → r ≡ Ok x
    → counter_ends g.next (act x).state.next ≡ false → (act x).state.config.serial ≡ g.config.serial → unless_numbers_end g (unless_refused g act r) ≡ act x
ordered_goes_on {A = A} g act r x e some same = ap (λ (q : Result A ℕ). unless_numbers_end g (unless_refused g act q)) e ∙ goes_on g (act x) some same

-- a number would end
ordered_stops : {A : Type 0} (g : ManagerState) (act : A → Moved ManagerState) (r : Result A ℕ) (x : A) → r ≡ Ok x
    → counter_ends g.next (act x).state.next ≡ true → unless_numbers_end g (unless_refused g act r) ≡ quiet g
ordered_stops {A = A} g act r x e ends = ap (λ (q : Result A ℕ). unless_numbers_end g (unless_refused g act q)) e ∙ counter_stops g (act x) ends

-- what is refused
ordered_refused : {A : Type 0} (g : ManagerState) (act : A → Moved ManagerState) (r : Result A ℕ) (why : ℕ) → r ≡ Err why → unless_numbers_end g (unless_refused g act r) ≡ refuses g why
ordered_refused {A = A} g act r why e = ap (λ (q : Result A ℕ). unless_numbers_end g (unless_refused g act q)) e ∙ stands g (refuses g why) refl refl

-- ---- recover

module _ (g : ManagerState) (p backup witness : ℕ) where
  pub recover_refused : (why : ℕ) → model.recovery_for g p backup witness ≡ Err why → manager_ordered g (local.Recover p backup witness) ≡ refuses g why
  unfolding manager_ordered model.recover
  recover_refused why e = ordered_refused g (model.recovers g p) _ why e

  pub recover_made : (o : Recover) → model.recovery_for g p backup witness ≡ Ok o → counter_ends g.next (model.after_recover_numbers g) ≡ false
      → manager_ordered g (local.Recover p backup witness) ≡ model.recovers g p o
  unfolding manager_ordered model.recover
  recover_made o e some = ordered_goes_on g (model.recovers g p) _ o e some refl

  pub recover_stops : (o : Recover) → model.recovery_for g p backup witness ≡ Ok o → counter_ends g.next (model.after_recover_numbers g) ≡ true
      → manager_ordered g (local.Recover p backup witness) ≡ quiet g
  unfolding manager_ordered model.recover
  recover_stops o e ends = ordered_stops g (model.recovers g p) _ o e ends

-- ---- replace

module _ (g : ManagerState) (kind : Keeper) (p place : ℕ) where
  pub replace_refused : (why : ℕ) → model.replacement_for g kind p place ≡ Err why → manager_ordered g (local.Replace kind p place) ≡ refuses g why
  unfolding manager_ordered model.replace
  replace_refused why e = ordered_refused g (model.replaces g p kind place) _ why e

  pub replace_made : (c : PartConfig) → model.replacement_for g kind p place ≡ Ok c → counter_ends g.next (model.after_replace_numbers g.next kind) ≡ false
      → manager_ordered g (local.Replace kind p place) ≡ model.replaces g p kind place c
  unfolding manager_ordered model.replace
  replace_made c e some = ordered_goes_on g (model.replaces g p kind place) _ c e some refl

  pub replace_stops : (c : PartConfig) → model.replacement_for g kind p place ≡ Ok c → counter_ends g.next (model.after_replace_numbers g.next kind) ≡ true
      → manager_ordered g (local.Replace kind p place) ≡ quiet g
  unfolding manager_ordered model.replace
  replace_stops c e ends = ordered_stops g (model.replaces g p kind place) _ c e ends

-- ---- migrate

module _ (g : ManagerState) (lo hi to : ℕ) where
  pub migrate_refused : (why : ℕ) → model.move_for g lo hi to ≡ Err why → manager_ordered g (local.Migrate lo hi to) ≡ refuses g why
  unfolding manager_ordered model.migrate
  migrate_refused why e = ordered_refused g (model.migrates g) _ why e

  pub migrate_made : (v : model.Move) → model.move_for g lo hi to ≡ Ok v → counter_ends g.next (record g.next { migration = g.next.migration + 1 }) ≡ false
      → manager_ordered g (local.Migrate lo hi to) ≡ model.migrates g v
  unfolding manager_ordered model.migrate
  migrate_made v e some = ordered_goes_on g (model.migrates g) _ v e some refl

  pub migrate_stops : (v : model.Move) → model.move_for g lo hi to ≡ Ok v → counter_ends g.next (record g.next { migration = g.next.migration + 1 }) ≡ true
      → manager_ordered g (local.Migrate lo hi to) ≡ quiet g
  unfolding manager_ordered model.migrate
  migrate_stops v e ends = ordered_stops g (model.migrates g) _ v e ends

-- ---- expire and nudge

pub expire_refused : (g : ManagerState) (client : ℕ) (why : ℕ) → model.client_for g client ≡ Err why → manager_ordered g (local.Expire client) ≡ refuses g why
unfolding manager_ordered model.expire
expire_refused g client why e = ordered_refused g (model.expires g) _ why e

pub expire_made : (g : ManagerState) (client : ℕ) (c : ℕ) → model.client_for g client ≡ Ok c → manager_ordered g (local.Expire client) ≡ model.expires g c
unfolding manager_ordered model.expire
expire_made g client c e = ap (λ (q : Result ℕ ℕ). unless_numbers_end g (unless_refused g (model.expires g) q)) e ∙ stands g (model.expires g c) refl refl

pub nudge_made : (g : ManagerState) → manager_ordered g local.Nudge ≡ model.nudge g
unfolding manager_ordered model.nudge
nudge_made g = stands g (model.nudge g) refl refl

-- ---- running out of memory

-- running out of memory is told only of what isn't refused
pub recover_out_of_memory : {A : Type 0} (g : ManagerState) (p backup witness : ℕ) (x : Recover) (r : Result A (Failed RecoverError)) → model.recovery_for g p backup witness ≡ Ok x → counter_ends g.next (model.after_recover_numbers g) ≡ false → IsErr r × IsErrAnd r (λ why. why ≡ failed.NoMemory)
    → Tells recover_number (manager_ordered g (local.Recover p backup witness)).refused r
recover_out_of_memory g p backup witness x (Ok done) e some wants = absurd wants.1
recover_out_of_memory g p backup witness x (Err why) e some wants = rw wants.1 (ap (λ (m : Moved ManagerState). m.refused) (recover_made g p backup witness x e some))

-- running out of memory names nothing
pub recover_names_nothing : {A : Type 0} (backup witness : ℕ) (r : Result A (Failed RecoverError)) → IsErr r × IsErrAnd r (λ why. why ≡ failed.NoMemory) → IfErr r (IfBecause (NamesPlaces backup witness))
recover_names_nothing backup witness (Ok done) wants = tt
recover_names_nothing backup witness (Err why) wants = rw wants.1 tt

-- running out of memory is told only of what isn't refused
pub replace_out_of_memory : {A : Type 0} (g : ManagerState) (kind : Keeper) (p place : ℕ) (x : PartConfig) (r : Result A (Failed ReplaceError)) → model.replacement_for g kind p place ≡ Ok x → counter_ends g.next (model.after_replace_numbers g.next kind) ≡ false → IsErr r × IsErrAnd r (λ why. why ≡ failed.NoMemory)
    → Tells replace_number (manager_ordered g (local.Replace kind p place)).refused r
replace_out_of_memory g kind p place x (Ok done) e some wants = absurd wants.1
replace_out_of_memory g kind p place x (Err why) e some wants = rw wants.1 (ap (λ (m : Moved ManagerState). m.refused) (replace_made g kind p place x e some))

-- running out of memory names nothing
pub replace_names_nothing : {A : Type 0} (doing : Option model.Doing) (r : Result A (Failed ReplaceError)) → IsErr r × IsErrAnd r (λ why. why ≡ failed.NoMemory) → IfErr r (IfBecause (NamesWork doing))
replace_names_nothing doing (Ok done) wants = tt
replace_names_nothing doing (Err why) wants = rw wants.1 tt

-- running out of memory is told only of what isn't refused
pub migrate_out_of_memory : {A : Type 0} (g : ManagerState) (lo hi to : ℕ) (x : model.Move) (r : Result A (Failed MigrateError)) → model.move_for g lo hi to ≡ Ok x → counter_ends g.next (record g.next { migration = g.next.migration + 1 }) ≡ false → IsErr r × IsErrAnd r (λ why. why ≡ failed.NoMemory)
    → Tells migrate_number (manager_ordered g (local.Migrate lo hi to)).refused r
migrate_out_of_memory g lo hi to x (Ok done) e some wants = absurd wants.1
migrate_out_of_memory g lo hi to x (Err why) e some wants = rw wants.1 (ap (λ (m : Moved ManagerState). m.refused) (migrate_made g lo hi to x e some))

-- running out of memory names nothing
pub migrate_names_nothing : {A : Type 0} (moving : Option model.Migration) (r : Result A (Failed MigrateError)) → IsErr r × IsErrAnd r (λ why. why ≡ failed.NoMemory) → IfErr r (IfBecause (NamesMigration moving))
migrate_names_nothing moving (Ok done) wants = tt
migrate_names_nothing moving (Err why) wants = rw wants.1 tt

-- running out of memory is told only of what isn't refused
pub expire_out_of_memory : {A : Type 0} (g : ManagerState) (client : ℕ) (x : ℕ) (r : Result A (Failed NoClient)) → model.client_for g client ≡ Ok x → IsErr r × IsErrAnd r (λ why. why ≡ failed.NoMemory)
    → Tells expire_number (manager_ordered g (local.Expire client)).refused r
expire_out_of_memory g client x (Ok done) e wants = absurd wants.1
expire_out_of_memory g client x (Err why) e wants = rw wants.1 (ap (λ (m : Moved ManagerState). m.refused) (expire_made g client x e))

-- what each order comes to
pub ruleset recovering = (recover_refused, recover_made, recover_stops, recover_out_of_memory, recover_names_nothing)

pub ruleset replacing = (replace_refused, replace_made, replace_stops, replace_out_of_memory, replace_names_nothing)

pub ruleset migrating = (migrate_refused, migrate_made, migrate_stops, migrate_out_of_memory, migrate_names_nothing)

pub ruleset expiring = (expire_refused, expire_made, expire_out_of_memory)
