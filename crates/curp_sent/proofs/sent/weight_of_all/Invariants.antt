use Rattle.std.proofs.Common.{◌≡◌, take}
use Rattle.curp_sent.specs.Batches.{weight_of_all}
use Rattle.curp_sent.proofs.sent.weight_of_all.Given as goal

-- the weight of the messages so far
abbrev pub invariant-loop-message : goal.invariant-loop-message
invariant-loop-message l = l.total ≡ weight_of_all (take l.message-index l.messages)
