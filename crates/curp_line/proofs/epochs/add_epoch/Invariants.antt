use Rattle.std.proofs.Common.{◌≡◌, ◌≤◌, ◌-◌}
use Rattle.curp_line.proofs.Ranks.{IsCarried}
use Rattle.curp_line.proofs.epochs.add_epoch.Given as goal

-- the partition's epochs so far are those before with the one that is added, but for the one that is carried
abbrev pub invariant-loop-rank : goal.invariant-loop-rank
invariant-loop-rank l = record {
  carried : IsCarried l.fn.epochs.items l.added l.epochs.items l.rank l.carried;
  within : l.rank ≤ l.count;
  room : l.epochs.spare ≡ l.fn.epochs.spare;
}

abbrev pub decreases-loop-rank : goal.decreases-loop-rank
decreases-loop-rank l = l.count - l.rank
