use Rattle.std.proofs.Common.{ℕ, ◌<◌}
use Rattle.curp_base.specs.Words.{At, IsPrefix}
use Rattle.curp_journal.specs.Turns.{Journal}
use Rattle.curp_gather.specs.Ruled.{sent_to, taken_of}
use Rattle.curp_gather.proofs.ruled.took_prefixes.Given as goal

abbrev pub invariant-loop-other : goal.invariant-loop-other
invariant-loop-other l = (t : ℕ) (other : Journal) → t < l.other-index → At l.strands t other → IsPrefix (taken_of other.id l.items) (sent_to l.to other.id 1 other.items)
