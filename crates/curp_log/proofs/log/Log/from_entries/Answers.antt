use Rattle.std.proofs.Common.{◌∙◌, ◌++◌, sym, take, ◌∷◌, []}
use Rattle.curp_log.proofs.Calls.{passed, refused, same_fit, taken_more}
use Rattle.curp_log.proofs.log.Log.from_entries.Goals as goal

pub returns-then-not-fits-clause-is_log : goal.returns-then-not-fits-clause-is_log
returns-then-not-fits-clause-is_log c =
    let so_far = c.loop-entry.invariant in
    let here = same_fit c.loop-entry.log.lo c.loop-entry.log.hi c.args.lo c.args.hi c.loop-entry.log.entries (take c.loop-entry.entry-index c.args.entries.now) c.entry-item.result so_far.lo so_far.hi so_far.entries in
    refused c.args.lo c.args.hi c.args.entries.now c.loop-entry.entry-index c.entry-item.result c.loop-entry-test.true c.entry-item.is (sym here ∙ sym c.in_ok-fits.ensures ∙ c.if-not-fits.true)

pub loop-entry-preserved : goal.loop-entry-preserved
loop-entry-preserved c =
    let so_far = c.loop-entry.invariant in
    let here = same_fit c.loop-entry.log.lo c.loop-entry.log.hi c.args.lo c.args.hi c.loop-entry.log.entries (take c.loop-entry.entry-index c.args.entries.now) c.entry-item.result so_far.lo so_far.hi so_far.entries in
    record {
      lo = c.push.ensures.lo ∙ c.reserve.ensures.lo ∙ so_far.lo;
      hi = c.push.ensures.hi ∙ c.reserve.ensures.hi ∙ so_far.hi;
      entries =
          c.push.ensures.entries ∙ (λ i. (c.reserve.ensures.entries ∙ so_far.entries) i ++ c.in_ok-copy.ensures i ∷ [])
          ∙ sym (taken_more c.args.entries.now c.loop-entry.entry-index c.entry-item.result c.loop-entry-test.true c.entry-item.is);
      so_far =
          passed c.args.lo c.args.hi c.args.entries.now c.loop-entry.entry-index c.entry-item.result c.loop-entry-test.true c.entry-item.is so_far.so_far
          (sym here ∙ sym c.in_ok-fits.ensures ∙ c.if-not-fits.false);
    }
