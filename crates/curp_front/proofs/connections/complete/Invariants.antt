use Rattle.std.proofs.Common.{◌≡◌, ◌++◌, map, take, drop}
use Rattle.curp_front.specs.Conversation.{completed}
use Rattle.curp_front.proofs.connections.complete.Given as goal

-- the connections so far are done, and the others are as they were
abbrev pub invariant-loop-at : goal.invariant-loop-at
invariant-loop-at l = l.connections.items ≡ map (completed l.id l.answer) (take l.at l.initial.connections.items) ++ drop l.at l.initial.connections.items
