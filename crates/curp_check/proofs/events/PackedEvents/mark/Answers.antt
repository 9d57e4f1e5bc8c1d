use Rattle.std.proofs.Common.{List, subst}
use Rattle.curp_order.specs.declared.Event.{Event}
use Rattle.curp_check.proofs.Encoded.{marked, packed_at}
use Rattle.curp_check.specs.Packed.{IsMarked, event_packed}
use Rattle.curp_check.proofs.events.PackedEvents.mark.Goals as goal

pub returns : goal.returns
returns c =
    let bytes = c.self.inside.bytes.items in
    let packed = c.self.inside.packed.items in
    let p = c.index.result.now in
    let at = packed_at (event_packed bytes) packed c.args.self.now c.args.at p c.self.view_is c.requires c.index.ensures in
    subst (λ (events : List Event). IsMarked events c.args.at p.mark) c.self.view_is (marked bytes packed c.args.at p at)
