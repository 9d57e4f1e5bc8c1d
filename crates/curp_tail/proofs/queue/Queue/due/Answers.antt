use Rattle.std.proofs.Common.{◌≡◌, IfOk, List, subst}
use Rattle.curp_cmd.specs.declared.command.RequestId.{RequestId}
use Rattle.curp_tail.proofs.Waits.{due_is}
use Rattle.curp_tail.proofs.queue.Queue.due.Goals as goal

pub returns : goal.returns
returns c =
    rw (← c.self.view_is)
    (subst (λ (ids : List RequestId). IfOk c.due_among.result (λ due. due.items ≡ ids)) (due_is c.self.inside.order.items c.self.inside.waits.items c.self.invariant c.args.synced)
    (rw c.deref.ensures.value at c.due_among.ensures))
