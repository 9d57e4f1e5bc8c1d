use Rattle.std.proofs.Common.{◌-◌, ◌^◌, min, map, ap, sym, ◌∙◌}
use Rattle.std.specs.List.{sum}
use Rattle.curp_journal.specs.declared.item.Item.{Item}
use Rattle.curp_msg.specs.Weight.{weight_of}
use Rattle.curp_merge.proofs.Sums.{weight_of_journal}
use Rattle.curp_merge.proofs.count.strand_weight.Goals as goal

pub returns : goal.returns
returns c =
    c.items_weight.ensures
    ∙ ap (λ n. min n (2 ^ 64 - 1)) (ap (λ items. sum (map (λ (item : Item). sum (map weight_of item.done.sent)) items)) c.items.ensures ∙ sym (weight_of_journal c.args.strand.now))
