use Rattle.std.proofs.Common.{ℕ}
use Rattle.curp_model.specs.Manager.{Steady}
use Rattle.curp_changes.proofs.Listed.{named_push}
use Rattle.curp_changes.proofs.opening.opening_work.Goals as goal

pub loop-made-preserved : goal.loop-made-preserved
loop-made-preserved c =
    named_push (λ (p : ℕ). Steady) 1 c.loop-made.made c.loop-made.work.items _ c.steady.result c.in_ok-push.ensures.items c.loop-made.invariant c.steady.ensures
