use Rattle.std.proofs.Common.{◌≡◌, length}
use Rattle.curp_collected.specs.Kinds.{numbered_from}
use Rattle.curp_collected.proofs.beginning.numbered.Given as goal

-- so many have their number
abbrev pub invariant-loop-node : goal.invariant-loop-node
invariant-loop-node g l = record {
  begun : l.begun.items ≡ numbered_from l.kind 1 l.yielded;
  count : l.number ≡ length l.yielded;
}
