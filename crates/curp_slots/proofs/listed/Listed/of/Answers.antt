use Rattle.std.proofs.Common.{get_or, refl}
use Rattle.curp_cmd.specs.declared.command.RequestId.{RequestId}
use Rattle.curp_slots.proofs.Listings.{has_more}
use Rattle.curp_slots.proofs.listed.Listed.of.Goals as goal

pub loop-id-preserved : goal.loop-id-preserved
loop-id-preserved c = λ id.
    let none : RequestId = record { client = 0; seq = 0 } in
    has_more id (get_or c.args.ids.now c.loop-id.id-index none) c.loop-id.listed.keys c.insert.new.self.keys c.args.ids.now c.loop-id.id-index none c.loop-id-test.true refl (c.in_ok-insert.ensures.keys) (c.loop-id.invariant id)
