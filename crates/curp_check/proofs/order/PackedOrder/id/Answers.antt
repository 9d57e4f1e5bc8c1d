use Rattle.std.proofs.Common.{List, subst}
use Rattle.curp_base.proofs.Lists.{at_map}
use Rattle.curp_base.specs.Words.{At}
use Rattle.curp_order.specs.Order.{Asked}
use Rattle.curp_check.proofs.Encoded.{packed_at}
use Rattle.curp_check.specs.Packed.{asked_packed, command_at}
use Rattle.curp_check.proofs.order.PackedOrder.id.Goals as goal

pub returns : goal.returns
returns c =
    let bytes = c.self.inside.bytes.items in
    let packed = c.self.inside.packed.items in
    let p = c.index.result.now in
    let at = packed_at (asked_packed bytes) packed c.args.self.now c.args.at p c.self.view_is c.requires c.index.ensures in
    (command_at bytes p.1, subst (λ (order : List Asked). At order c.args.at (asked_packed bytes p)) c.self.view_is (at_map (asked_packed bytes) packed c.args.at p at))
