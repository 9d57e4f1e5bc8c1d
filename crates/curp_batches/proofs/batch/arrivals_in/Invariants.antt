use Rattle.std.proofs.Common.{◌-◌, ◌≤◌, length}
use Rattle.curp_batches.proofs.Sequences.{ReadSo}
use Rattle.curp_batches.proofs.batch.arrivals_in.Given as goal

abbrev pub invariant-arrivals : goal.invariant-arrivals
invariant-arrivals l = record {
  so : ReadSo l.bytes l.batch.items l.at;
  within : l.at ≤ length l.bytes;
}

abbrev pub decreases-arrivals : goal.decreases-arrivals
decreases-arrivals l = length l.bytes - l.at
