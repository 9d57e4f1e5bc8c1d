use Rattle.std.proofs.Common.{◌≡◌, ◌++◌, map, take, drop}
use Rattle.curp_front.specs.Conversation.{completed_due}
use Rattle.curp_front.proofs.connection.complete_each.Given as goal

-- the replies so far are done, and the others are as they were
abbrev pub invariant-loop-at : goal.invariant-loop-at
invariant-loop-at l = l.due.items ≡ map (completed_due l.id l.answer) (take l.at l.initial.due.items) ++ drop l.at l.initial.due.items
