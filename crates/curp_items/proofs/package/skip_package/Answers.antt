use Rattle.std.proofs.Common.{refl}
use Rattle.curp_items.specs.Items.{package_format, pairs}
use Rattle.curp_items.proofs.package.skip_package.Goals as goal

pub returns : goal.returns
unfolding package_format pairs
returns c =
    let b = c.in_ok-read.field-0 in
    (record { lo = b.lo; hi = b.hi; pairs = c.in_ok-skip_pairs.ensures.0; table = c.in_ok-skip_table.ensures.0; ordered = b.ordered }, rw (c.in_ok-read.ensures, c.in_ok-skip_pairs.ensures.1, c.in_ok-skip_table.ensures.1) refl)
