use Rattle.curp_check.proofs.Encoded.{asked_pushed}
use Rattle.curp_check.proofs.order.PackedOrder.push.Goals as goal

pub invariant_of-self-2 : goal.invariant_of-self-2
invariant_of-self-2 c =
    let place = c.in_ok-place in
    let pushed = asked_pushed c.self.inside.bytes.items c.pack.new.bytes.items c.self.inside.packed.items place.place c.args.id c.args.command.now
    c.self.invariant place.ensures.place place.ensures.ok place.ensures.fits in
    rw (c.push_reserved.ensures.items, c.reserve.ensures.items) pushed.0

pub returns-clause-ok : goal.returns-clause-ok
returns-clause-ok c =
    let place = c.in_ok-place in
    let pushed = asked_pushed c.self.inside.bytes.items c.pack.new.bytes.items c.self.inside.packed.items place.place c.args.id c.args.command.now
    c.self.invariant place.ensures.place place.ensures.ok place.ensures.fits in
    rw (← c.self.view_is, c.push_reserved.ensures.items, c.reserve.ensures.items) pushed.1
