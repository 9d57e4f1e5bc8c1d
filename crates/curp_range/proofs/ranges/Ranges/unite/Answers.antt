use Rattle.std.proofs.Common.{ap, ◌∙◌}
use Rattle.curp_range.specs.Spans.{RangeSet, with_range}
use Rattle.curp_range.proofs.Sets.{is_with_range}
use Rattle.curp_range.proofs.ranges.Ranges.unite.Goals as goal

pub returns-clause-spans : goal.returns-clause-spans
returns-clause-spans c =
    is_with_range _ _ _ _ c.self.invariant c.join.ensures.ascend c.requires.ordered c.ranges.hi.fits c.join.ensures.owned
    ∙ ap (λ (set : RangeSet). with_range set.spans c.args.lo c.args.hi) c.self.view_is
