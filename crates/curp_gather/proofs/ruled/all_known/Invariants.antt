use Rattle.std.proofs.Common.{ℕ, ◌<◌}
use Rattle.curp_base.specs.Words.{At}
use Rattle.curp_journal.specs.Turns.{Journal}
use Rattle.curp_gather.specs.Ruled.{AllKnown}
use Rattle.curp_gather.proofs.ruled.all_known.Given as goal

abbrev pub invariant-loop-one : goal.invariant-loop-one
invariant-loop-one l = (t : ℕ) (one : Journal) → t < l.one-index → At l.strands t one → AllKnown l.strands one.items
