use Rattle.curp_range.proofs.Same.{same_within}
use Rattle.curp_range.proofs.laws.same_spans.Goals as goal

pub returns : goal.returns
returns c xs ys a b e = same_within _ _ xs ys a b e
