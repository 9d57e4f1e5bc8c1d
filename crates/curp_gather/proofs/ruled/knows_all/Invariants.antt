use Rattle.std.proofs.Common.{ℕ, ◌≡◌, ◌<◌}
use Rattle.curp_base.specs.Words.{At}
use Rattle.curp_journal.specs.declared.arrived.Arrived.TheVariants as arrived
use Rattle.curp_journal.specs.declared.arrived.Named.{Named}
use Rattle.curp_journal.specs.declared.item.Item.{Item}
use Rattle.curp_journal.specs.Turns.{IsKnown}
use Rattle.curp_gather.proofs.ruled.knows_all.Given as goal

abbrev pub invariant-loop-item : goal.invariant-loop-item
invariant-loop-item l = (t : ℕ) (item : Item) → t < l.item-index → At l.items t item → (named : Named) → item.input ≡ arrived.Message named → IsKnown l.strands named.from
