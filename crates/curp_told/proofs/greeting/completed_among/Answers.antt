use Rattle.std.proofs.Common.{◌∙◌}
use Rattle.curp_told.proofs.Pending.{marks_more}
use Rattle.curp_told.proofs.greeting.completed_among.Goals as goal

pub loop-item-preserved : goal.loop-item-preserved
loop-item-preserved c =
    let l = c.loop-item in
    record {
      many = c.mark.ensures.many ∙ l.invariant.many;
      marks = marks_more c.args.client c.args.items.now l.item-index c.item-item.result l.marks.items c.mark.new.marks.items c.loop-item-test.true c.item-item.is c.mark.ensures.many c.mark.ensures.marks l.invariant.marks;
    }
