use Rattle.curp_range.proofs.Places.{span_of_covered}
use Rattle.curp_range.proofs.spans.span_of.Goals as goal

pub returns : goal.returns
returns c = span_of_covered _ _ _ _ c.requires.ascend c.requires.ordered c.ended_before.ensures c.requires.owned
