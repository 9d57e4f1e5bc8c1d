use Rattle.std.proofs.Common.{◌≡◌, drop}
use Rattle.curp_gather.specs.Ruled.{taken_of}
use Rattle.curp_gather.proofs.next.next_taken.Given as goal

abbrev pub invariant-loop-item : goal.invariant-loop-item
invariant-loop-item l = (l.index ≡ l.item-index) × (taken_of l.from l.items ≡ taken_of l.from (drop l.item-index l.items))
