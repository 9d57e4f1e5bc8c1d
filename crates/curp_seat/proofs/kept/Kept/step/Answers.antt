use Rattle.curp_journal.proofs.Replays.{keeps}
use Rattle.curp_seat.proofs.kept.Kept.step.Goals as goal

pub invariant_of-self-in-Ok : goal.invariant_of-self-in-Ok
invariant_of-self-in-Ok g c =
    let item = rw c.in-Ok.is at c.in_ok-item.ensures.item in
    let state = rw c.in-Ok.is at c.in_ok-item.ensures.state in
    let taken = rw c.in-Ok.is at c.in_ok-item.ensures.taken in
    let room = rw c.in-Ok.is at c.in_ok-item.ensures.room in (
      keeps g.N.Core.machine c.self.inside.opening.value c.self.inside.items.items c.self.inside.node c.self.inside.last c.args.arrived
          c.in-Ok.item c.made.new.node c.push_reserved.new.self.items c.self.invariant.0 item state taken (cc (c.push_reserved.ensures.items, c.reserve.ensures.items)),
      rw item room,
    )
