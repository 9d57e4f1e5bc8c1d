-- Where what was stored stands in an adopted log.
use Rattle.std.specs.Prelude.{◌≡◌, ℕ, ◌+◌, List, take}
use Rattle.curp_base.specs.Words.{IsPrefix}
use Rattle.curp_cmd.specs.declared.entry.Entry.{Entry}
use Rattle.curp_msg.specs.declared.config.PartConfig.{PartConfig}
use Rattle.curp_model.specs.World.{World}
use Rattle.curp_facts.specs.Kept.{AdoptedLog}
use Rattle.curp_facts.specs.Migrated.{AllStored}

-- what was stored, as it stands in an adopted log: the log begins as that of the sender up to the entry, and each backup of the
-- partition has so much
pub record StoredNow (w : World) (part : ℕ) (log : List Entry) (index : ℕ) : Type 0 where
  pub entry : PartConfig
  pub its : AdoptedLog w entry
  pub its_part : entry.part ≡ part
  pub prefix : IsPrefix (take (index + 1) log) its.its.log
  pub stored : AllStored w entry (index + 1)
