use Rattle.std.proofs.Common.{arith}
use Rattle.curp_range.specs.Places.{IsSpanOf}
use Rattle.curp_range.proofs.Cuts.{IsCut, cut_whole, cut_back, cut_prefix, cut_middle}
use Rattle.curp_range.proofs.spans.cut.Goals as goal

pub returns-in-false-false : goal.returns-in-false-false
returns-in-false-false c =
    let place : IsSpanOf c.args.spans.now.items c.args.lo c.args.hi c.span_of-at.result = rw (← c.deref.ensures.value) c.span_of-at.ensures in
    let left : IsCut c.args.spans.now.items c.args.lo c.args.hi c.remove.new.self.items =
    rw c.remove.ensures.items (cut_whole _ _ _ _ _ c.requires.ascend c.requires.ordered place c.index.ensures c.in-false-false.is-0 c.in-false-false.is-1) in
    record { ascend = left.ascend; owned = left.owned; spare = omega arith }

pub returns-in-true-false : goal.returns-in-true-false
returns-in-true-false c =
    let place : IsSpanOf c.args.spans.now.items c.args.lo c.args.hi c.span_of-at.result = rw (← c.deref.ensures.value) c.span_of-at.ensures in
    let left : IsCut c.args.spans.now.items c.args.lo c.args.hi c.set-in-true-false.new.self.items =
    rw c.set-in-true-false.ensures.items (cut_back _ _ _ _ _ c.requires.ascend c.requires.ordered place c.index.ensures c.in-true-false.is-0 c.in-true-false.is-1) in
    record { ascend = left.ascend; owned = left.owned; spare = omega arith }

pub returns-in-false-true : goal.returns-in-false-true
returns-in-false-true c =
    let place : IsSpanOf c.args.spans.now.items c.args.lo c.args.hi c.span_of-at.result = rw (← c.deref.ensures.value) c.span_of-at.ensures in
    let left : IsCut c.args.spans.now.items c.args.lo c.args.hi c.set-in-false-true.new.self.items =
    rw c.set-in-false-true.ensures.items (cut_prefix _ _ _ _ _ c.requires.ascend c.requires.ordered place c.index.ensures c.in-false-true.is-0 c.in-false-true.is-1) in
    record { ascend = left.ascend; owned = left.owned; spare = omega arith }

middle : (c : goal.After-insert) → IsCut c.args.spans.now.items c.args.lo c.args.hi c.insert.new.self.items
middle c =
    let place : IsSpanOf c.args.spans.now.items c.args.lo c.args.hi c.span_of-at.result = rw (← c.deref.ensures.value) c.span_of-at.ensures in
    rw (c.insert.ensures.items, c.set.ensures.items) (cut_middle _ _ _ _ _ c.requires.ascend c.requires.ordered place c.index.ensures c.in-true-true.is-0 c.in-true-true.is-1)

pub returns-in-true-true-clause-ascend : goal.returns-in-true-true-clause-ascend
returns-in-true-true-clause-ascend c = (middle c).ascend

pub returns-in-true-true-clause-owned : goal.returns-in-true-true-clause-owned
returns-in-true-true-clause-owned c = (middle c).owned
