use Rattle.std.proofs.Common.{ℕ, ◌≡◌, ◌<◌, Some}
use Rattle.curp_base.specs.Words.{At}
use Rattle.curp_journal.specs.declared.item.Item.{Item}
use Rattle.curp_msg.specs.declared.machine.Completed.{Completed}
use Rattle.curp_anew.proofs.work.is_completed.Given as goal

-- none so far completes it
abbrev pub invariant-loop-item : goal.invariant-loop-item
invariant-loop-item l = (t : ℕ) (item : Item) (completed : Completed) → t < l.item-index → At l.items t item → item.done.completed ≡ Some completed → completed.id ≡ l.id → ⊥
