use Rattle.std.proofs.Common.{◌≡◌, ◌+◌, ◌++◌, ◌∙◌, length, take, refl, ap, sym, true≢false, arith}
use Rattle.std.proofs.lemmas.List.{take_all}
use Rattle.std.proofs.lemmas.Option.{slice_get_read}
use Rattle.curp_base.specs.Words.{At}
use Rattle.curp_gather.specs.Ruled.{sent_to, taken_of}
use Rattle.curp_gather.proofs.Scans.{all_taken, item_differs, item_taken, item_whole, none_prefix}
use Rattle.curp_gather.proofs.compare.took_prefix.Goals as goal

pub returns-then-none_taken : goal.returns-then-none_taken
returns-then-none_taken c = ((λ t. none_prefix _ _ (c.none_taken.ensures.0 c.if-none_taken.true)), λ f. refl)

pub returns-in-Whole : goal.returns-in-Whole
returns-in-Whole c =
    let others = c.args.others.now in
    let n = c.loop-other.other-index in
    let inv = c.loop-other.invariant in
    let at : At others n c.other-item.result = slice_get_read others (length others) n c.other-item.result refl c.loop-other-test.true c.other-item.is in
    ((λ t. item_whole c.args.to c.args.from n c.loop-other.step others c.other-item.result _ _ at inv.0 inv.1 c.in-Whole.ensures), λ f. refl)

pub returns-in-Differs : goal.returns-in-Differs
returns-in-Differs c =
    let others = c.args.others.now in
    let n = c.loop-other.other-index in
    let inv = c.loop-other.invariant in
    let at : At others n c.other-item.result = slice_get_read others (length others) n c.other-item.result refl c.loop-other-test.true c.other-item.is in
    ((λ t. absurd (true≢false (sym t))), λ f. absurd (item_differs c.args.to c.args.from n c.loop-other.step others c.other-item.result _ _ at inv.0 inv.1 c.in-Differs.ensures f))

pub loop-other-preserved : goal.loop-other-preserved
loop-other-preserved c =
    let others = c.args.others.now in
    let n = c.loop-other.other-index in
    let inv = c.loop-other.invariant in
    let at : At others n c.other-item.result = slice_get_read others (length others) n c.other-item.result refl c.loop-other-test.true c.other-item.is in
    (omega (arith, inv.0), item_taken c.args.to c.args.from n (n + 1) c.loop-other.step others c.other-item.result _ _ _ at inv.0 refl inv.1 c.in-More.ensures)

pub returns : goal.returns
returns c =
    let others = c.args.others.now in
    let whole : take c.loop-other.other-index others ≡ others = take_all c.loop-other.other-index others (omega (arith, c.loop-other-test.false)) in
    all_taken _ (sent_to c.args.to c.args.from 1 others) _ c.none_taken-2.result
    (c.loop-other.invariant.1 ∙ ap (λ l. sent_to c.args.to c.args.from 1 l ++ taken_of c.args.from c.loop-other.rest.now) whole) c.none_taken-2.ensures
