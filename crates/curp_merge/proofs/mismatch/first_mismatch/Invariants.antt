use Rattle.std.proofs.Common.{ℕ, ◌<◌}
use Rattle.curp_base.specs.Words.{At}
use Rattle.curp_journal.specs.Turns.{Journal}
use Rattle.curp_merge.specs.Held.{ItemsHeld}
use Rattle.curp_merge.proofs.mismatch.first_mismatch.Given as goal

-- all is held that came to the nodes so far
abbrev pub invariant-loop-at : goal.invariant-loop-at
invariant-loop-at l = (k : ℕ) (j : Journal) → k < l.at → At l.strands k j → ItemsHeld l.strands j.items
