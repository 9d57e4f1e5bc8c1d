use Rattle.std.proofs.Common.{◌≡◌, ◌≤◌, length}
use Rattle.curp_cmd.proofs.kept.Standby.reserve.Given as goal

-- as many stand ready as were counted, and none of the former ones is gone
abbrev pub invariant-loop : goal.invariant-loop
invariant-loop l = record {
  made : length l.self-inside.places.items ≡ l.counter;
  kept : l.fn.self ≤ l.counter;
}
