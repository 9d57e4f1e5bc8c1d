use Rattle.std.proofs.Common.{◌≡◌, ◌<◌, ◌∙◌, List, Bool, false, get_or, length, ap, arith}
use Rattle.curp_told.specs.Marks.{id_behind}
use Rattle.curp_told.specs.Told.{is_completed}
use Rattle.curp_told.proofs.Pending.{pending_on}
use Rattle.curp_told.proofs.greeting.tell_pending.Goals as goal

pub loop-before-preserved : goal.loop-before-preserved
loop-before-preserved c =
    let l = c.loop-before in
    let marks = c.deref-is_completed-items in
    let low : l.before < length c.in_ok-marks.marks.items = omega (arith, c.loop-before-test.true, ap length marks.ensures.value) in
    let is : get_or marks.result.now l.before false ≡ is_completed c.args.items.now (id_behind c.args.client l.before) =
    ap (λ (xs : List Bool). get_or xs l.before false) marks.ensures.value ∙ c.in_ok-marks.ensures.marks l.before low in
    pending_on c.args.client l.before c.args.items.now (get_or marks.result.now l.before false) c.args.text.now.items l.text.items c.tell_unless_completed.new.text.items is l.invariant c.in_ok-tell_unless_completed.ensures
