use Rattle.std.proofs.Common.{◌≡◌, ◌≤◌, take, vec_capacity}
use Rattle.curp_disk.specs.Calls.{seen_through}
use Rattle.curp_disk.proofs.medium.make_again.Given as goal

abbrev pub invariant-loop-call : goal.invariant-loop-call
invariant-loop-call l = record {
  made : l.first.items ≡ seen_through l.fn.first.items (take l.call-index l.calls);
  capacity : vec_capacity l.fn.first ≤ vec_capacity l.first;
}
