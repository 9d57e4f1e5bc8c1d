use Rattle.curp_range.proofs.Tests.{covers_if_covered, covered_if_covers}
use Rattle.curp_range.proofs.laws.one_span_covers.Goals as goal

pub returns : goal.returns
returns c xs lo hi a o = (covers_if_covered xs lo hi, covered_if_covers _ _ xs lo hi a o)
