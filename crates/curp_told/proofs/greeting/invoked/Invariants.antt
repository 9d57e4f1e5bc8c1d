use Rattle.std.proofs.Common.{◌≡◌, take}
use Rattle.curp_told.specs.Told.{invoked}
use Rattle.curp_told.proofs.greeting.invoked.Given as goal

abbrev pub invariant-loop-item : goal.invariant-loop-item
invariant-loop-item l = l.count ≡ invoked (take l.item-index l.items)
