use Rattle.curp_ruled.specs.Posting.{place_of, slot_ended_to}
use Rattle.curp_ruled.proofs.Places.{changed_past, changed_there}
use Rattle.curp_ruled.proofs.posts.end_to.Goals as goal

pub returns-then-place-slots : goal.returns-then-place-slots
returns-then-place-slots g c =
    changed_there (slot_ended_to c.args.to) c.place_of-place.result (place_of c.args.to) c.args.slots.now c.index-slots-place.result c.end_to.new.self
    c.place_of-place.ensures c.if-place-slots.true c.index-slots-place.is c.end_to.ensures

pub returns-else-place-slots : goal.returns-else-place-slots
returns-else-place-slots g c =
    changed_past (slot_ended_to c.args.to) c.place_of-place.result (place_of c.args.to) c.args.slots.now c.place_of-place.ensures c.if-place-slots.false
