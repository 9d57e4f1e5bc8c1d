use Rattle.curp_ruled.specs.Posting.{place_of, slot_sent}
use Rattle.curp_ruled.proofs.Places.{changed_past, changed_there}
use Rattle.curp_ruled.proofs.posts.send_to.Goals as goal

pub returns-then-place-slots : goal.returns-then-place-slots
returns-then-place-slots g c =
    changed_there (slot_sent c.args.to c.args.envelope) c.place_of-place.result (place_of c.args.to) c.args.slots.now c.index-slots-place.result c.send.new.self
    c.place_of-place.ensures c.if-place-slots.true c.index-slots-place.is c.send.ensures

pub returns-else-place-slots : goal.returns-else-place-slots
returns-else-place-slots g c =
    changed_past (slot_sent c.args.to c.args.envelope) c.place_of-place.result (place_of c.args.to) c.args.slots.now c.place_of-place.ensures c.if-place-slots.false
