use Rattle.std.proofs.Common.{ℕ, ◌<◌}
use Rattle.curp_base.specs.Words.{At}
use Rattle.curp_journal.specs.declared.item.Item.{Item}
use Rattle.curp_merge.specs.Held.{IsHeld}
use Rattle.curp_merge.proofs.mismatch.mismatch_in.Given as goal

-- what came by the items so far is held
abbrev pub invariant-loop-index : goal.invariant-loop-index
invariant-loop-index l = (t : ℕ) (item : Item) → t < l.index → At l.items t item → IsHeld l.strands item.input
