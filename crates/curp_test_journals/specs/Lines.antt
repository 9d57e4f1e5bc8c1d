-- Journals of nodes that the tests merge (this project's own).
use Rattle.std.specs.Prelude.{◌≢◌}
use Rattle.curp_base.specs.Words.{Each}
use Rattle.curp_cmd.specs.declared.node.NodeKind.TheVariants as kind
use Rattle.curp_journal.specs.Journal.{Stamped}
use Rattle.curp_journal.specs.declared.item.Item.{Item}
use Rattle.curp_journal.specs.Turns.{Journal}
use Rattle.curp_journal.specs.Own.{IsOwn}

-- a node that isn't the manager can have the journal
pub record IsLine (j : Journal) : Type 0 where
  pub runs : j.id.kind ≢ kind.Manager
  pub stamped : Stamped 0 j.items
  pub own : Each (λ (item : Item). IsOwn j.id item.input) j.items
