use Rattle.curp_check.proofs.Encoded.{events_pushed}
use Rattle.curp_check.proofs.events.PackedEvents.push.Goals as goal

pub invariant_of-self-2 : goal.invariant_of-self-2
invariant_of-self-2 c =
    let pushed = events_pushed c.self.inside.bytes.items c.pack_event.new.bytes.items c.pack_event.ensures.prefix c.self.inside.packed.items
    c.in_ok-packed.packed c.args.event.now c.self.invariant c.in_ok-packed.ensures.ok in
    rw (c.push_reserved.ensures.items, c.reserve.ensures.items) pushed.0

pub returns-clause-ok : goal.returns-clause-ok
returns-clause-ok c =
    let pushed = events_pushed c.self.inside.bytes.items c.pack_event.new.bytes.items c.pack_event.ensures.prefix c.self.inside.packed.items
    c.in_ok-packed.packed c.args.event.now c.self.invariant c.in_ok-packed.ensures.ok in
    rw (← c.self.view_is, c.push_reserved.ensures.items, c.reserve.ensures.items) pushed.1
