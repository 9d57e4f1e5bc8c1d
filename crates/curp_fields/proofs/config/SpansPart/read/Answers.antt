use Rattle.std.proofs.Common.{◌<◌, ◌^◌, ◌∙◌, ap, arith, subst, sym}
use Rattle.curp_base.specs.Words.{last_of}
use Rattle.curp_items.proofs.More.{last-push, more_read}
use Rattle.curp_range.specs.Spans.{with_range}
use Rattle.curp_fields.specs.Fields.{IsLeast, least_after, span_from}
use Rattle.curp_fields.proofs.SpanLists.{least_kept, spans-push, with_last}
use Rattle.curp_fields.proofs.config.SpansPart.read.Goals as goal

pub loop-preserved : goal.loop-preserved
loop-preserved c =
    let held = c.loop.invariant in
    let before = c.loop.ranges.spans in
    let lo = c.in_ok-lo.lo in
    let hi = c.in_ok-lo.hi in
    let least = least_after (last_of before) in
    let behind = c.in_ok-lo.ensures.behind least held.least in
    let read = c.in_ok-lo.ensures.reads least held.least in
    let all = c.unite.ensures.spans ∙ ap (λ xs. with_range xs lo hi) c.in_ok-reserve.ensures.spans ∙ with_last before lo hi held.ascend behind in
    let last = ap last_of all ∙ last-push before (lo, hi) in
    record {
      read = rw all (more_read (λ before. span_from (least_after (last_of before))) before c.in_ok-count.count c.loop.counter c.loop.reader _ held.read (lo, hi) c.read_span.new.reader c.loop-test.true read);
      least = subst (λ o. IsLeast c.checked_add-least.result (least_after o)) (sym last) (least_kept c.checked_add-least.result hi c.checked_add-least.ensures);
      ascend = rw all (spans-push before (lo, hi) held.ascend behind c.in_ok-lo.ensures.ordered (let b : hi < 2 ^ 64 = omega arith in b));
    }
