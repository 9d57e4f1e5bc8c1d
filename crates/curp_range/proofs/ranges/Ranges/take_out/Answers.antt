use Rattle.std.proofs.Common.{ap, ◌∙◌}
use Rattle.curp_range.specs.Spans.{RangeSet, without}
use Rattle.curp_range.proofs.Sets.{is_without}
use Rattle.curp_range.proofs.ranges.Ranges.take_out.Goals as goal

pub returns-clause-spans : goal.returns-clause-spans
returns-clause-spans c =
    is_without _ _ _ _ c.self.invariant c.cut.ensures.ascend c.requires.ordered c.cut.ensures.owned
    ∙ ap (λ (set : RangeSet). without set.spans c.args.lo c.args.hi) c.self.view_is
