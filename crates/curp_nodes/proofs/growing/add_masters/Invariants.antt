use Rattle.std.proofs.Common.{◌≡◌, ◌≤◌, ◌+◌, length, vec_capacity}
use Rattle.curp_model.specs.Recovery.{Fresh}
use Rattle.curp_model.specs.World.{grown}
use Rattle.curp_nodes.specs.Nodes.{HasNumbers, states}
use Rattle.curp_nodes.proofs.growing.add_masters.Given as goal

-- those below the number are there, and the room stays
abbrev pub invariant-loop-number : goal.invariant-loop-number
invariant-loop-number l = record {
  states : states l.masters.items ≡ grown (states l.fn.masters.items) Fresh l.number;
  numbers : HasNumbers l.masters.items;
  there : length l.masters.items + 1 ≡ l.number;
  below : l.number ≤ l.next;
  room : vec_capacity l.masters ≡ vec_capacity l.fn.masters;
}
