use Rattle.std.proofs.Common.{ℕ, ◌≤◌, ◌<◌}
use Rattle.curp_journal.specs.Work.{IsCompletedIn}
use Rattle.curp_anew.proofs.work.all_completed.Given as goal

-- those so far are completed
abbrev pub invariant-loop-seq : goal.invariant-loop-seq
invariant-loop-seq l = (seq : ℕ) → 1 ≤ seq → seq < l.seq → IsCompletedIn l.items (record { client = l.client; seq = seq })
