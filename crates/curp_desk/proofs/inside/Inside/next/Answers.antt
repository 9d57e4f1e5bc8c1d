use Rattle.std.proofs.Common.{◌≡◌, ◌+◌, rules}
use Rattle.curp_desk.specs.Outbox.{counted}
use Rattle.curp_desk.proofs.Outboxes.{hands}
use Rattle.curp_desk.proofs.inside.Inside.next.Goals as goal

pub invariant_of-self : goal.invariant_of-self
invariant_of-self g c =
    let on = c.self.inside in
    let one : c.saturating_add-self-inside.result ≡ counted (on.handed + 1) = search rules in
    hands on.running on.number on.begun on.handed _ c.pop_front-next.result on.outbox.items c.pop_front-next.new.self.items on.ended on.short c.self.invariant
    (search rules) c.pop_front-next.ensures.items one
