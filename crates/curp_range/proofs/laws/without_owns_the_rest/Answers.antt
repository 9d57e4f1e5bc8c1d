use Rattle.curp_range.proofs.Sets.{spans_without}
use Rattle.curp_range.proofs.laws.without_owns_the_rest.Goals as goal

pub returns : goal.returns
returns c xs lo hi a o = spans_without xs lo hi a o
