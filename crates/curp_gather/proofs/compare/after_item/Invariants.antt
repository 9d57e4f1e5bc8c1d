use Rattle.std.proofs.Common.{◌≡◌, ◌+◌, ◌++◌, take}
use Rattle.curp_journal.specs.Sending.{named_of}
use Rattle.curp_gather.specs.Ruled.{taken_of, to_node}
use Rattle.curp_gather.proofs.compare.after_item.Given as goal

abbrev pub invariant-loop-message : goal.invariant-loop-message
invariant-loop-message l =
    (l.place ≡ 1 + l.message-index)
    × (taken_of l.from l.items ≡ to_node l.to (named_of l.from l.step l.other.stamp 1 (take l.message-index l.other.done.sent)) ++ taken_of l.from l.rest)
