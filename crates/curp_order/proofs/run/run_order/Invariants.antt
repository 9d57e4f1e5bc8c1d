use Rattle.std.proofs.Common.{◌≡◌, ◌++◌, drop}
use Rattle.curp_order.specs.Order.{answers, answers_from}
use Rattle.curp_order.proofs.run.run_order.Given as goal

-- what is given, and what the store answers to the rest, are the answers
abbrev pub invariant-loop-command : goal.invariant-loop-command
invariant-loop-command l = l.given.items ++ answers_from l.store.map (drop l.command-index l.fn.requests) ≡ answers l.fn.requests
