use Rattle.std.proofs.Common.{◌-◌, length}
use Rattle.curp_durable.specs.Opening.{WalkedOver}
use Rattle.curp_durable.proofs.opening.collect.Given as goal

abbrev pub invariant-commits : goal.invariant-commits
invariant-commits l = WalkedOver l.content l.title l.commit l.inputs.items

abbrev pub decreases-commits : goal.decreases-commits
decreases-commits l = length l.content - l.commit
