use Rattle.std.proofs.Common.{◌≡◌, ◌++◌, drop}
use Rattle.curp_model.specs.World.{with_answers}
use Rattle.curp_order.specs.Order.{answers, answers_from}
use Rattle.curp_sent.proofs.ordered.answered.Given as goal

-- the requests so far with their answers, and the others with what the store answers to them
abbrev pub invariant-loop-id : goal.invariant-loop-id
invariant-loop-id l =
    l.list.items ++ with_answers (drop l.id-index l.requests) (answers_from l.store.map (drop l.id-index l.requests)) ≡ with_answers l.requests (answers l.requests)
