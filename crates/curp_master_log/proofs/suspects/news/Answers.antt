use Rattle.std.proofs.Common.{◌≡◌, ◌<◌, ◌+◌, ◌∷◌, ◌++◌, [], drop, length, ap, sym, ◌∙◌, arith}
use Rattle.curp_base.proofs.Lists.{drop_index}
use Rattle.curp_cmd.specs.declared.command.Answer.TheVariants.{Done}
use Rattle.curp_cmd.specs.declared.command.Request.{Request}
use Rattle.curp_cmd.specs.declared.entry.Entry.TheVariants.{Op}
use Rattle.curp_model.specs.Table.{acknowledge, note}
use Rattle.curp_master_log.proofs.Suspected.{scans_more, scans_none, scans_on}
use Rattle.curp_master_log.proofs.suspects.news.Goals.{then-can_come+in_ok-share+in_ok-push+in_ok-reserve, else-can_come}
use Rattle.curp_master_log.proofs.suspects.news.Goals as goal

pub loop-suspect-init : goal.loop-suspect-init
loop-suspect-init c = rw (c.new-seen.ensures, c.new-ops.ensures.items) (scans_none c.args.log.now.lo c.args.log.now.hi c.args.log.now.entries c.args.suspects.now)

pub loop-suspect-preserved : goal.loop-suspect-preserved
loop-suspect-preserved c =
    let all = c.args.suspects.now in
    let at = c.loop-suspect.suspect-index in
    let r : Request = c.suspect-item.result in
    let within : at < length all = omega (arith, c.loop-suspect-test.true, c.loop-suspect.auto.suspect-index-end) in
    let first : drop at all ≡ r ∷ drop (at + 1) all = drop_index all at r within ∙ ap (λ (x : Request). x ∷ drop (at + 1) all) (sym c.suspect-item.is) in
    elim c.if-can_come.branch [
      | then-can_come+in_ok-share+in_ok-push+in_ok-reserve w ↦
          let finished : c.if-can_come.seen.table ≡ acknowledge (note c.loop-suspect.seen.table w.deref.result.now.id Done 0) w.deref.result.now.id.client 0 =
          cc (w.seen-is, w.finish.ensures.table, w.in_ok-reserve.ensures.table)
          in
          let table : c.if-can_come.seen.table ≡ acknowledge (note c.loop-suspect.seen.table r.id Done 0) r.id.client 0 =
          finished ∙ ap (λ (x : Request). acknowledge (note c.loop-suspect.seen.table x.id Done 0) x.id.client 0) w.deref.ensures
          in
          let ops : c.if-can_come.ops.items ≡ c.loop-suspect.ops.items ++ Op r 0 ∷ [] = cc (w.ops-is, w.in_ok-push.ensures.items, w.unacknowledging.ensures, w.in_ok-share.ensures) in
          rw (table, ops)
          (scans_more c.args.log.now.lo c.args.log.now.hi c.args.log.now.entries all c.loop-suspect.seen.table c.loop-suspect.ops.items (drop at all) (drop (at + 1) all) r
          c.loop-suspect.invariant first Done 0 (sym c.can_come.ensures ∙ w.if-can_come.true))
      | else-can_come w ↦
          let table : c.if-can_come.seen.table ≡ c.loop-suspect.seen.table = cc w.seen-is in
          let ops : c.if-can_come.ops.items ≡ c.loop-suspect.ops.items = cc w.ops-is in
          rw (table, ops)
          (scans_on c.args.log.now.lo c.args.log.now.hi c.args.log.now.entries all c.loop-suspect.seen.table c.loop-suspect.ops.items (drop at all) (drop (at + 1) all) r
          c.loop-suspect.invariant first (sym c.can_come.ensures ∙ w.if-can_come.false))
    ]
