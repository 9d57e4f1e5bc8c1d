use Rattle.std.proofs.Common.{◌≤◌, Ok, ap}
use Rattle.std.proofs.Math.Bridge.{le_prop}
use Rattle.curp_cmd.specs.declared.migration.Package.{Package}
use Rattle.curp_items.specs.Items.{package_format, pairs}
use Rattle.curp_items.proofs.package.read_package.Goals as goal

pub returns : goal.returns
unfolding package_format pairs
returns c =
    let b = c.in_ok-bounds.bounds in
    let make = λ (q : b.lo ≤ b.hi). let p : Package = record { lo = b.lo; hi = b.hi; pairs = c.in_ok-pairs.pairs; table = c.in_ok-table.table; ordered = q } in Ok (p, c.read_table.new.reader) in
    rw (c.in_ok-bounds.ensures, c.in_ok-pairs.ensures, c.in_ok-table.ensures) (ap make (le_prop b.ordered _))
