-- Which gives stand before the take of a migration.
use Rattle.std.specs.Prelude.{◌<◌, ℕ}
use Rattle.curp_base.specs.Words.{At}
use Rattle.curp_cmd.specs.declared.entry.Entry.TheVariants.{Take, Give}
use Rattle.curp_cmd.specs.declared.migration.Package.{Package}
use Rattle.curp_msg.specs.declared.config.PartConfig.{PartConfig}
use Rattle.curp_model.specs.World.{World}
use Rattle.curp_facts.specs.Kept.{AdoptedLog}
use Rattle.curp_facts.specs.Invariant.{Invariant}
use Rattle.curp_facts.specs.Names.{Names}
use Rattle.curp_facts.specs.Predecessors.{Predecessors}
use Rattle.curp_facts.specs.Migrated.{WasTold}
use Rattle.curp_facts.specs.Routes.{Routes}

-- in an adopted log only gives of earlier migrations stand before the take of one that was told
pub record GivesBefore (w : World) : Type 0 where
  pub earlier : (number : ℕ) → WasTold w number → (c : PartConfig) (l : AdoptedLog w c) (index : ℕ) (taken : Package) → At l.its.log index (Take number taken)
      → (k other : ℕ) (p : Package) → k < index → At l.its.log k (Give other p) → other < number

-- all that is known of a world with its routes
pub record Routed (w : World) : Type 0 where
  pub names : Names w
  pub inv : Invariant w
  pub chain : Predecessors w
  pub routes : Routes w
