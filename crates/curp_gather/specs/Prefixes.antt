-- What code finds as it compares what was taken with what was sent (this project's own).
use Rattle.std.specs.Prelude.{◌≡◌, List, ◌++◌}
use Rattle.curp_base.specs.Words.{IsPrefix}
use Rattle.curp_cmd.specs.declared.node.NodeId.{NodeId}
use Rattle.curp_journal.specs.declared.arrived.Named.{Named}
use Rattle.curp_journal.specs.declared.item.Item.{Item}
use Rattle.curp_gather.specs.Ruled.{taken_of}
use Rattle.curp_gather.specs.declared.prefix.Prefix.{Prefix}
use Rattle.curp_gather.specs.declared.prefix.Prefix.TheVariants.{Differs, More, Whole}

-- what these items took of a node begins with what was due, and goes on with what the items left took; or it is a prefix of
-- what was due; or it is no prefix of that, whatever else is due behind it
abbrev pub IsPrefixBy : NodeId → List Item → List Named → Prefix → Type 0
IsPrefixBy from rest due (More left) = taken_of from rest ≡ due ++ taken_of from left.now
IsPrefixBy from rest due Whole = IsPrefix (taken_of from rest) due
IsPrefixBy from rest due Differs = (later : List Named) → IsPrefix (taken_of from rest) (due ++ later) → ⊥
