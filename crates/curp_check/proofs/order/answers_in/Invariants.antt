use Rattle.std.proofs.Common.{◌≡◌, ◌++◌, drop}
use Rattle.curp_order.specs.Order.{answers, answers_from}
use Rattle.curp_check.proofs.order.answers_in.Given as goal

-- what is given, and what the store answers to the rest, are the answers
abbrev pub invariant-loop-at : goal.invariant-loop-at
invariant-loop-at l = l.given.items ++ answers_from l.store.map (drop l.at l.order) ≡ answers l.order
