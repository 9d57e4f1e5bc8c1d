use Rattle.std.proofs.Common.{◌≡◌, ◌+◌, max, drop, length, refl, ap, arith}
use Rattle.curp_base.proofs.Lists.{drop_at}
use Rattle.std.proofs.lemmas.Option.{slice_get_read}
use Rattle.curp_seat.specs.Taking.{newest_in}
use Rattle.curp_seat.proofs.took.newest_in.Goals as goal

pub loop-part-preserved : goal.loop-part-preserved
loop-part-preserved c =
    let parts = c.args.parts.now in
    let k = c.loop-part.part-index in
    let part = c.part-item.result in
    let here = slice_get_read parts (length parts) k part refl c.loop-part-test.true c.part-item.is in
    let next : newest_in (drop k parts) ≡ max part.master.number (newest_in (drop (k + 1) parts)) = ap newest_in (drop_at parts k part here) in
    omega (arith, next, c.loop-part.invariant, c.max-newest.ensures)
