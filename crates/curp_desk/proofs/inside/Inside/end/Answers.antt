use Rattle.std.proofs.Common.{true}
use Rattle.curp_desk.proofs.Outboxes.{ends}
use Rattle.curp_desk.proofs.inside.Inside.end.Goals as goal

pub invariant_of-self : goal.invariant_of-self
invariant_of-self g c =
    let on = c.self.inside in
    ends on.running on.number on.begun on.handed on.outbox.items on.ended true on.short c.self.invariant
