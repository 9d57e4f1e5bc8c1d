use Rattle.std.proofs.Common.{ℕ, ◌<◌}
use Rattle.curp_base.specs.Words.{At}
use Rattle.curp_journal.specs.declared.item.Item.{Item}
use Rattle.curp_journal.specs.Own.{IsOwn}
use Rattle.curp_anew.proofs.own.all_own.Given as goal

-- what came so far is its own
abbrev pub invariant-loop-item : goal.invariant-loop-item
invariant-loop-item l = (t : ℕ) (item : Item) → t < l.item-index → At l.items t item → IsOwn l.id item.input
