use Rattle.std.proofs.Common.{◌-◌, length, arith, sym}
use Rattle.curp_base.proofs.Lists.{at_within}
use Rattle.curp_told.proofs.Pending.{last_stamp_at}
use Rattle.curp_told.proofs.greeting.last_stamp.Goals as goal

pub returns-in-Some : goal.returns-in-Some
returns-in-Some c =
    let items = c.args.items.now in
    let item = c.in-Some.item.now in
    let at = sym c.in-Some.ensures.value in
    last_stamp_at 0 items (length items - 1) item at (omega (arith, at_within items (length items - 1) item at))
