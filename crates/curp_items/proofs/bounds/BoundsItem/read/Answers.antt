use Rattle.std.proofs.Common.{◌≤◌, Ok, ap, arith}
use Rattle.std.proofs.Math.Bridge.{le_prop}
use Rattle.curp_items.specs.declared.bounds.Bounds.{Bounds}
use Rattle.curp_items.specs.Items.{bounds}
use Rattle.curp_items.proofs.Ranges.{range_is}
use Rattle.curp_items.proofs.bounds.BoundsItem.read.Goals as goal

pub returns : goal.returns
unfolding bounds
returns c =
    let o : c.in_ok-lo.lo ≤ c.in_ok-hi.hi = omega arith in
    rw (c.in_ok-lo.ensures, c.in_ok-hi.ensures, range_is c.in_ok-lo.lo c.in_ok-hi.hi o) (ap (λ (q : c.in_ok-lo.lo ≤ c.in_ok-hi.hi). let b : Bounds = record { lo = c.in_ok-lo.lo; hi = c.in_ok-hi.hi; ordered = q } in Ok (b, c.read-2.new.reader)) (le_prop o _))
