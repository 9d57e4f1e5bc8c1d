use Rattle.std.proofs.Common.{arith}
use Rattle.curp_wire.proofs.Frames.{made_frame}
use Rattle.curp_wire.proofs.Lightness.{content_size, has_content}
use Rattle.curp_wire.proofs.writing.encode_light.Goals as goal

pub behind_room-requires : goal.behind_room-requires
behind_room-requires c = has_content c.args.message.now c.requires

pub with_length-requires : goal.with_length-requires
with_length-requires c =
    let m = c.args.message.now in
    let size = content_size m c.requires c.in_ok-frame.ensures.message in
    record { least = omega (arith, c.in_ok-frame.ensures.length); most = omega (arith, c.in_ok-frame.ensures.length, size) }

pub returns : goal.returns
returns c =
    let m = c.args.message.now in
    let is = c.in_ok-frame.ensures.message in
    rw c.with_length.ensures (made_frame m c.in_ok-frame.frame.items c.in_ok-frame.ensures.length c.in_ok-frame.ensures.content is (content_size m c.requires is))
