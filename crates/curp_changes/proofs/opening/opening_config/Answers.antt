use Rattle.std.proofs.Common.{◌≡◌, ◌+◌, ap, ◌∙◌, arith}
use Rattle.curp_model.specs.Manager.{opening_part}
use Rattle.curp_changes.proofs.Listed.{named_push}
use Rattle.curp_changes.proofs.opening.opening_config.Goals as goal

pub loop-made-preserved : goal.loop-made-preserved
loop-made-preserved c =
    let next : c.loop-made.made + 1 ≡ 1 + c.loop-made.made = omega arith in
    named_push (opening_part c.args.shape.now) 1 c.loop-made.made c.loop-made.parts.items _ _ c.in_ok-push.ensures.items c.loop-made.invariant
    (c.in_ok-opening_part.ensures ∙ ap (opening_part c.args.shape.now) next)
