use Rattle.std.proofs.Common.{◌≤◌, ◌-◌}
use Rattle.curp_line.specs.Cuts.{epochs_of, how_many}
use Rattle.curp_line.proofs.Ascending.{is_low}
use Rattle.curp_line.proofs.epochs.count_to.Given as goal

-- as many are low as stand between the two bounds
abbrev pub invariant-loop-low : goal.invariant-loop-low
invariant-loop-low l = record {
  low : l.low ≤ how_many (is_low l.top.epoch) (epochs_of l.top.part l.epochs);
  high : how_many (is_low l.top.epoch) (epochs_of l.top.part l.epochs) ≤ l.high;
  within : l.high ≤ l.count;
}

abbrev pub decreases-loop-low : goal.decreases-loop-low
decreases-loop-low l = l.high - l.low
