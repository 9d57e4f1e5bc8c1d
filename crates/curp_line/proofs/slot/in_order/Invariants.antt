use Rattle.std.proofs.Common.{◌≡◌, ◌++◌, drop, map}
use Rattle.curp_line.specs.Slots.{asked}
use Rattle.curp_line.proofs.slot.in_order.Given as goal

-- what is told so far, and what is of the marks that are left
abbrev pub invariant-loop-mark : goal.invariant-loop-mark
invariant-loop-mark l = l.order.items ++ map asked (drop l.mark-index l.mark-items) ≡ map asked l.mark-items
