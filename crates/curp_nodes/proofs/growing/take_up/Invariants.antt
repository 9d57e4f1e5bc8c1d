use Rattle.std.proofs.Common.{◌≡◌, ◌≤◌, ◌+◌, ◌++◌, length, vec_capacity}
use Rattle.curp_nodes.proofs.growing.take_up.Given as goal

-- all are where they were, one after the other, and the room stays
abbrev pub invariant-loop-taken : goal.invariant-loop-taken
invariant-loop-taken l = record {
  all : l.witnesses.items ++ l.ahead.items ≡ l.fn.witnesses.items ++ l.fn.ahead.items;
  there : length l.witnesses.items + 1 ≡ l._taken;
  below : l._taken ≤ l.next;
  room : vec_capacity l.witnesses ≡ vec_capacity l.fn.witnesses;
}
