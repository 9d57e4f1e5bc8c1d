use Rattle.std.proofs.Common.{◌≡◌, ◌↔◌, drop}
use Rattle.curp_journal.specs.Work.{invoked_in}
use Rattle.curp_anew.proofs.work.invoked.Given as goal

-- all of it is invoked by all just where what is left is by the items that are left
abbrev pub invariant-loop-item : goal.invariant-loop-item
invariant-loop-item l = (invoked_in (drop l.item-index l.items) ≡ l.left) ↔ (invoked_in l.items ≡ l.commands)
