use Rattle.std.proofs.Common.{◌≤◌, Ok, ap}
use Rattle.std.proofs.Math.Bridge.{le_prop}
use Rattle.curp_msg.specs.declared.body.TakeOut.{TakeOut}
use Rattle.curp_fields.specs.Fields.{take_out_fields}
use Rattle.curp_fields.proofs.managing.TakeOutPart.read.Goals as goal

pub returns : goal.returns
unfolding take_out_fields
returns c =
    let b = c.in_ok-bounds.bounds in
    let make = λ (q : b.lo ≤ b.hi). let t : TakeOut = record { migration = c.in_ok-migration.migration; lo = b.lo; hi = b.hi; ordered = q } in Ok (t, c.read-2.new.reader) in
    rw (c.in_ok-migration.ensures, c.in_ok-bounds.ensures) (ap make (le_prop b.ordered _))
