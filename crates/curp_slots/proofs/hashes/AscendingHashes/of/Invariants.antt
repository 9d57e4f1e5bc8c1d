use Rattle.std.proofs.Common.{◌≡◌, ◌≤◌, length, take}
use Rattle.curp_cmd.specs.Hash.{ascending}
use Rattle.curp_slots.proofs.hashes.AscendingHashes.of.Given as goal

-- the hashes so far
abbrev pub invariant-loop-at : goal.invariant-loop-at
invariant-loop-at l = record {
  so_far : l.ascending ≡ ascending (take l.at l.found);
  most : length l.ascending ≤ l.at;
  least : 1 ≤ l.at → 1 ≤ length l.ascending;
}
