-- What came so far stands at the prefix of the bytes.
use Rattle.std.proofs.Common.{ℕ, List, ◌++◌, ◌≤◌, length}
use Rattle.curp_base.specs.Words.{Each}
use Rattle.curp_filter.specs.Coming.{Comes, arriving}
use Rattle.curp_filter.specs.Taking.{MayTake}
use Rattle.curp_filter.proofs.gathering.gather_arrivals.Given as goal

abbrev pub invariant-arrivals : goal.invariant-arrivals
invariant-arrivals l = record {
  came : (bytes : List ℕ) (passed : ℕ) (left : List ℕ) → Comes (arriving l.fn.arrived.items) bytes passed (l.fn.parcels.ahead ++ left) l.fn.parcels.passed
      → Comes (arriving l.arrived.items) bytes passed (l.parcels.ahead ++ left) l.parcels.passed;
  each : Each (MayTake l.fn.role l.fn.count) l.arrived.items;
  more : length l.fn.arrived.items ≤ length l.arrived.items;
}

abbrev pub decreases-arrivals : goal.decreases-arrivals
decreases-arrivals l = length l.parcels.ahead
