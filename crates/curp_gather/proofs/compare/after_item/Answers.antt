use Rattle.std.proofs.Common.{◌≡◌, ◌+◌, length, refl, subst, arith}
use Rattle.std.proofs.lemmas.Option.{slice_get_read}
use Rattle.curp_base.specs.Words.{At}
use Rattle.curp_gather.proofs.Scans.{message_differs, message_taken, message_whole}
use Rattle.curp_gather.proofs.compare.after_item.Goals as goal

pub returns-in-Whole : goal.returns-in-Whole
returns-in-Whole c =
    let messages = c.args.other.now.done.sent in
    let n = c.loop-message.message-index in
    let inv = c.loop-message.invariant in
    let at : At messages n c.message-item.result = subst (λ l. At l n c.message-item.result) c.as_slice-message-items.ensures (slice_get_read c.as_slice-message-items.result.now (length c.as_slice-message-items.result.now) n c.message-item.result refl c.loop-message-test.true c.message-item.is) in
    message_whole c.args.to c.args.from c.args.step c.args.other.now.stamp n c.loop-message.place messages c.message-item.result _ _ at inv.0 inv.1 c.in-Whole.ensures

pub returns-in-Differs : goal.returns-in-Differs
returns-in-Differs c =
    let messages = c.args.other.now.done.sent in
    let n = c.loop-message.message-index in
    let inv = c.loop-message.invariant in
    let at : At messages n c.message-item.result = subst (λ l. At l n c.message-item.result) c.as_slice-message-items.ensures (slice_get_read c.as_slice-message-items.result.now (length c.as_slice-message-items.result.now) n c.message-item.result refl c.loop-message-test.true c.message-item.is) in
    message_differs c.args.to c.args.from c.args.step c.args.other.now.stamp n c.loop-message.place messages c.message-item.result _ _ at inv.0 inv.1 c.in-Differs.ensures

pub loop-message-preserved : goal.loop-message-preserved
loop-message-preserved c =
    let messages = c.args.other.now.done.sent in
    let n = c.loop-message.message-index in
    let inv = c.loop-message.invariant in
    let at : At messages n c.message-item.result = subst (λ l. At l n c.message-item.result) c.as_slice-message-items.ensures (slice_get_read c.as_slice-message-items.result.now (length c.as_slice-message-items.result.now) n c.message-item.result refl c.loop-message-test.true c.message-item.is) in
    (omega (arith, inv.0), message_taken c.args.to c.args.from c.args.step c.args.other.now.stamp n (n + 1) c.loop-message.place messages c.message-item.result _ _ _ at inv.0 refl inv.1 c.in-More.ensures)
