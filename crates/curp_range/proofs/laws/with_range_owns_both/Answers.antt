use Rattle.curp_range.proofs.Sets.{spans_with_range}
use Rattle.curp_range.proofs.laws.with_range_owns_both.Goals as goal

pub returns : goal.returns
returns c xs lo hi a o u = spans_with_range xs lo hi a o u
