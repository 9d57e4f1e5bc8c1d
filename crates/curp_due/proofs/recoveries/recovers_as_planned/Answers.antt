use Rattle.std.proofs.Common.{◌≡◌, ◌<◌, List, [], drop, sym, ◌∙◌, arith}
use Rattle.std.proofs.lemmas.List.{at_drop_all}
use Rattle.curp_msg.specs.declared.machine.Local.{Local}
use Rattle.curp_law_weave.specs.Run.{ordered_in}
use Rattle.curp_due.proofs.Recovering.{no_recovery, past_last}
use Rattle.curp_due.proofs.recoveries.recovers_as_planned.Goals as goal

abbrev no_orders : List Local
no_orders = []

pub returns : goal.returns
returns c =
    let plan = c.args.plan.now in
    let next = c.loop-item.next in
    let left = c.loop-item.invariant.left in
    let none : ordered_in (drop c.loop-item.item-index c.args.items.now) ≡ no_orders =
    at_drop_all ordered_in c.args.items.now c.loop-item.item-index (omega (arith, c.loop-item-test.false)) in (
      λ yes. let past : plan.recoveries < next = grind (arith, yes) in left.0 (none ∙ sym (no_recovery plan next past)),
      λ all. let past : plan.recoveries < next = past_last plan next (sym none ∙ left.1 all) in grind (arith, past),
    )
