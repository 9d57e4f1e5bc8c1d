use Rattle.std.proofs.Common.{◌≡◌, ◌+◌, ◌++◌, take}
use Rattle.curp_gather.specs.Ruled.{sent_to, taken_of}
use Rattle.curp_gather.proofs.compare.took_prefix.Given as goal

abbrev pub invariant-loop-other : goal.invariant-loop-other
invariant-loop-other l =
    (l.step ≡ 1 + l.other-index) × (taken_of l.from l.items ≡ sent_to l.to l.from 1 (take l.other-index l.others) ++ taken_of l.from l.rest)
