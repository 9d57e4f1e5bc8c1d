use Rattle.std.proofs.Common.{◌≡◌, ◌-◌, ◌^◌, min, map, take}
use Rattle.std.specs.List.{sum}
use Rattle.curp_msg.specs.Weight.{weight_of}
use Rattle.curp_merge.proofs.count.messages_weight.Given as goal

-- the weight of the messages so far
abbrev pub invariant-loop-message : goal.invariant-loop-message
invariant-loop-message l = l.total ≡ min (sum (map weight_of (take l.message-index l.messages))) (2 ^ 64 - 1)
