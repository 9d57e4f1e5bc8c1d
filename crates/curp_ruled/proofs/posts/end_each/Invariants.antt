use Rattle.std.proofs.Common.{◌≡◌, ◌++◌, map, take, drop}
use Rattle.curp_ruled.specs.Posting.{slot_ended}
use Rattle.curp_ruled.proofs.posts.end_each.Given as goal

-- the posts so far got their end, and the others are as they were
abbrev pub invariant-loop-slot : goal.invariant-loop-slot
invariant-loop-slot g l = l.slots ≡ map slot_ended (take l.slot-index l.fn.slots) ++ drop l.slot-index l.fn.slots
