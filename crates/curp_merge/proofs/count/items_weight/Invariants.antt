use Rattle.std.proofs.Common.{◌≡◌, ◌-◌, ◌^◌, min, map, take}
use Rattle.std.specs.List.{sum}
use Rattle.curp_journal.specs.declared.item.Item.{Item}
use Rattle.curp_msg.specs.Weight.{weight_of}
use Rattle.curp_merge.proofs.count.items_weight.Given as goal

-- what the items so far sent weighs
abbrev pub invariant-loop-item : goal.invariant-loop-item
invariant-loop-item l = l.total ≡ min (sum (map (λ (item : Item). sum (map weight_of item.done.sent)) (take l.item-index l.items))) (2 ^ 64 - 1)
