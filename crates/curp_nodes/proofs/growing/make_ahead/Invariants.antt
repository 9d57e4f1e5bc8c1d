use Rattle.std.proofs.Common.{◌≡◌, length}
use Rattle.curp_nodes.specs.Nodes.{IsAhead}
use Rattle.curp_nodes.proofs.growing.make_ahead.Given as goal

-- so many are made
abbrev pub invariant-loop-made : goal.invariant-loop-made
invariant-loop-made l = record {
  ahead : IsAhead l.there l.ahead.items l.sets l.ways;
  made : length l.ahead.items ≡ l.made;
}
