use Rattle.std.proofs.Common.{◌≡◌, ◌+◌, arith, length}
use Rattle.curp_parcels.proofs.Buffers.{added, added_due, kept_prefix}
use Rattle.curp_parcels.proofs.buffer.read_behind.Goals as goal

pub returns-in-Bytes-clause-adds : goal.returns-in-Bytes-clause-adds
returns-in-Bytes-clause-adds g c =
    let old = c.args.buffer.now.items in
    let long : c.len-length.result ≡ length old = omega (arith, c.len-length.ensures, c.args.buffer.now.ok.0) in
    added old c.resize.new.self.items c.take_behind.new.buffer.items c.truncate.new.self.items c.len-length.result c.in-Bytes.count long
    (kept_prefix _ old _ c.resize.new.self.items (c.len-length.result + 65536) (omega (arith, long)) c.resize.ensures.items)
    c.in-Bytes.ensures.prefix c.in-Bytes.ensures.fits c.truncate.ensures.items

pub returns-in-Bytes-clause-bytes : goal.returns-in-Bytes-clause-bytes
returns-in-Bytes-clause-bytes g c = λ told.
    let old = c.args.buffer.now.items in
    let long : c.len-length.result ≡ length old = omega (arith, c.len-length.ensures, c.args.buffer.now.ok.0) in
    added_due old c.resize.new.self.items c.take_behind.new.buffer.items c.truncate.new.self.items (g.S.Source.left c.args.source.now) (g.S.Source.left c.take_behind.new.source) c.len-length.result c.in-Bytes.count long
    (kept_prefix _ old _ c.resize.new.self.items (c.len-length.result + 65536) (omega (arith, long)) c.resize.ensures.items)
    c.in-Bytes.ensures.prefix c.truncate.ensures.items (c.in-Bytes.ensures.bytes told).0
