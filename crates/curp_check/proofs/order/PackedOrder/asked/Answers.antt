use Rattle.std.proofs.Common.{List, subst}
use Rattle.curp_base.specs.Words.{At}
use Rattle.curp_order.specs.Order.{Asked}
use Rattle.curp_check.proofs.Encoded.{asked_read, command_held, packed_at}
use Rattle.curp_check.specs.Packed.{asked_packed}
use Rattle.curp_check.proofs.order.PackedOrder.asked.Goals as goal

pub unpack-requires : goal.unpack-requires
unpack-requires c =
    let bytes = c.self.inside.bytes.items in
    let packed = c.self.inside.packed.items in
    let p = c.index.result.now in
    let at = packed_at (asked_packed bytes) packed c.args.self.now c.args.at p c.self.view_is c.requires c.index.ensures in
    command_held bytes c.deref.result.now packed c.args.at p c.self.invariant c.deref.ensures.value at

pub returns : goal.returns
returns c =
    let bytes = c.self.inside.bytes.items in
    let packed = c.self.inside.packed.items in
    let p = c.index.result.now in
    let at = packed_at (asked_packed bytes) packed c.args.self.now c.args.at p c.self.view_is c.requires c.index.ensures in
    subst (λ (order : List Asked). At order c.args.at (p.0, c.unpack.result)) c.self.view_is
    (asked_read bytes c.deref.result.now packed c.args.at p c.unpack.result c.deref.ensures.value at c.unpack.ensures)
