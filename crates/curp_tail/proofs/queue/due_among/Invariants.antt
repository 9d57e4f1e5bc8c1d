use Rattle.std.proofs.Common.{◌≡◌, take}
use Rattle.std.specs.List.{filter}
use Rattle.curp_tail.specs.Queue.{is_come_of}
use Rattle.curp_tail.proofs.queue.due_among.Given as goal

-- the due ids so far
abbrev pub invariant-loop-id : goal.invariant-loop-id
invariant-loop-id l = l.due.items ≡ filter (is_come_of l.waits.items l.synced) (take l.id-index l.order)
