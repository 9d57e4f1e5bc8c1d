use Rattle.std.proofs.Common.{◌≡◌, ◌<◌, [], ◌∷◌, IfOk, refl, sym, ◌∙◌, ap, subst}
use Rattle.curp_durable.specs.Standing.{taken}
use Rattle.curp_durable.specs.Stopping.{kept_commit, kept_inputs}
use Rattle.curp_journal.specs.Given.{given}
use Rattle.curp_manage.specs.Kept.{title_for}
use Rattle.curp_manage.specs.Managed.{LineDone, Managed, input_given}
use Rattle.curp_manage.specs.declared.outcome.LineOutcome.TheVariants as outcome
use Rattle.curp_manage.proofs.Given.{managed_after, managed_again, stopped_at, stopped_is, told_is}
use Rattle.curp_manage.proofs.Left.{is_left, standby_is}
use Rattle.curp_manage.proofs.Room.{encoded, has_room}
use Rattle.curp_model.specs.Manager.{opening_manager}
use Rattle.curp_model.specs.World.{shape_of}
use Rattle.curp_msg.specs.Limits.{step_limit}
use Rattle.curp_config.specs.Machine.{manager_machine}
use Rattle.curp_manage.proofs.managing.Managing.give.Goals as goal

-- ---- the manager answers

pub invariant_of-managing : goal.invariant_of-managing
invariant_of-managing c =
    let i = c.self.inside in
    let m = c.self.invariant in
    let few : i.manager.stand.count < step_limit = subst (λ (v : Managed). v.decisions < step_limit) (sym c.self.view_is) c.requires.few in
    let on = c.in-Ok.ensures in
    managed_after i.header i.manager i.crash i.next c.args.arrived m few c.requires.small c.on.new.self on.state on.commit on.ran (λ disarmed. (on.sound disarmed).1) on.goes_on.1 on.limit
    (on.kept (title_for i.header) (opening_manager (shape_of i.header)) m.inputs refl refl m.keeps)

pub returns-in-Ok-clause-done : goal.returns-in-Ok-clause-done
returns-in-Ok-clause-done c =
    let i = c.self.inside in
    let m = c.self.invariant in
    let few : i.manager.stand.count < step_limit = subst (λ (v : Managed). v.decisions < step_limit) (sym c.self.view_is) c.requires.few in
    let on = c.in-Ok.ensures in
    let told = told_is i.header i.manager i.crash i.next c.args.arrived m few c.requires.small c.on.new.self on.state on.commit on.ran (λ disarmed. (on.sound disarmed).1) c.in-Ok.done on.done in
    subst (λ (x : LineDone). IfOk c.tell.result (λ r. record { now = r.0; outcome = r.1 } ≡ x)) (told ∙ ap (λ (v : Managed). input_given v (given c.args.arrived)) c.self.view_is) c.tell.ensures.done

-- ---- the disk stops

pub open_crashed-requires : goal.open_crashed-requires
open_crashed-requires c =
    let i = c.self.inside in
    let m = c.self.invariant in
    let old = i.manager in
    let stop = c.in-Some.stop in
    let few : old.stand.count < step_limit = subst (λ (v : Managed). v.decisions < step_limit) (sym c.self.view_is) c.requires.few in
    let failed = rw (c.in-Err-Because-DiskFault.field-0-is, c.in-Err-Because-DiskFault.field-0-0-is) at c.in-Err-Because-DiskFault.ensures.ran_err in
    let takes = taken manager_machine old.stand (c.args.arrived ∷ []) in
    let stopped = stopped_at i.header old i.crash i.next c.args.arrived m few c.requires.small c.on.new.self.disk stop c.in-Some.is failed.0 failed.1 in
    let journal = c.a_stopped_batch_is_kept_or_lost.ensures old.disk c.on.new.self.disk old.stand old.commit stop.call (title_for i.header) (opening_manager (shape_of i.header)) m.inputs takes stop.kept m.keeps stopped in
    let led = c.a_stopped_batch_leaves_what_was.ensures old.disk c.on.new.self.disk old.stand old.commit stop.call (title_for i.header) (opening_manager (shape_of i.header)) m.inputs takes stop.kept m.keeps stopped in
    let is = standby_is old i.crash stop c.in_ok-standby.standby c.in-Some-standby.checkpoint c.in_ok-standby.ensures c.in-Some.is c.in-Some-standby.is in
    (i.header, is_left i.header c.on.new.self.disk stop (kept_inputs m.inputs takes stop.call stop.kept) (kept_commit old.commit takes stop.call stop.kept) old c.in-Some-standby.checkpoint is journal led)

pub over-managing-requires : goal.over-managing-requires
over-managing-requires c =
    let i = c.self.inside in
    let m = c.self.invariant in
    let old = i.manager in
    let stop = c.in-Some.stop in
    let few : old.stand.count < step_limit = subst (λ (v : Managed). v.decisions < step_limit) (sym c.self.view_is) c.requires.few in
    let failed = rw (c.in-Err-Because-DiskFault.field-0-is, c.in-Err-Because-DiskFault.field-0-0-is) at c.in-Err-Because-DiskFault.ensures.ran_err in
    let takes = taken manager_machine old.stand (c.args.arrived ∷ []) in
    let stopped = stopped_at i.header old i.crash i.next c.args.arrived m few c.requires.small c.on.new.self.disk stop c.in-Some.is failed.0 failed.1 in
    let journal = c.a_stopped_batch_is_kept_or_lost.ensures old.disk c.on.new.self.disk old.stand old.commit stop.call (title_for i.header) (opening_manager (shape_of i.header)) m.inputs takes stop.kept m.keeps stopped in
    let again = c.in_ok-manager-in-Err-Because-DiskFault.manager in
    let led = c.a_stopped_batch_leaves_what_was.ensures old.disk c.on.new.self.disk old.stand old.commit stop.call (title_for i.header) (opening_manager (shape_of i.header)) m.inputs takes stop.kept m.keeps stopped in
    let is = standby_is old i.crash stop c.in_ok-standby.standby c.in-Some-standby.checkpoint c.in_ok-standby.ensures c.in-Some.is c.in-Some-standby.is in
    let left = is_left i.header c.on.new.self.disk stop (kept_inputs m.inputs takes stop.call stop.kept) (kept_commit old.commit takes stop.call stop.kept) old c.in-Some-standby.checkpoint is journal led in
    let opened = c.in_ok-manager-in-Err-Because-DiskFault.ensures i.header (kept_inputs m.inputs takes stop.call stop.kept) (kept_commit old.commit takes stop.call stop.kept) left journal in
    managed_again i.header old i.crash i.next c.args.arrived m few c.requires.small c.on.new.self.disk stop c.in-Some.is failed.0 failed.1 again opened

pub returns-in_ok-manager-in-Err-Because-DiskFault-clause-done : goal.returns-in_ok-manager-in-Err-Because-DiskFault-clause-done
returns-in_ok-manager-in-Err-Because-DiskFault-clause-done c =
    let i = c.self.inside in
    let m = c.self.invariant in
    let old = i.manager in
    let stop = c.in-Some.stop in
    let few : old.stand.count < step_limit = subst (λ (v : Managed). v.decisions < step_limit) (sym c.self.view_is) c.requires.few in
    let failed = rw (c.in-Err-Because-DiskFault.field-0-is, c.in-Err-Because-DiskFault.field-0-0-is) at c.in-Err-Because-DiskFault.ensures.ran_err in
    let takes = taken manager_machine old.stand (c.args.arrived ∷ []) in
    let stopped = stopped_at i.header old i.crash i.next c.args.arrived m few c.requires.small c.on.new.self.disk stop c.in-Some.is failed.0 failed.1 in
    let journal = c.a_stopped_batch_is_kept_or_lost.ensures old.disk c.on.new.self.disk old.stand old.commit stop.call (title_for i.header) (opening_manager (shape_of i.header)) m.inputs takes stop.kept m.keeps stopped in
    let again = c.in_ok-manager-in-Err-Because-DiskFault.manager in
    let led = c.a_stopped_batch_leaves_what_was.ensures old.disk c.on.new.self.disk old.stand old.commit stop.call (title_for i.header) (opening_manager (shape_of i.header)) m.inputs takes stop.kept m.keeps stopped in
    let is = standby_is old i.crash stop c.in_ok-standby.standby c.in-Some-standby.checkpoint c.in_ok-standby.ensures c.in-Some.is c.in-Some-standby.is in
    let left = is_left i.header c.on.new.self.disk stop (kept_inputs m.inputs takes stop.call stop.kept) (kept_commit old.commit takes stop.call stop.kept) old c.in-Some-standby.checkpoint is journal led in
    let opened = c.in_ok-manager-in-Err-Because-DiskFault.ensures i.header (kept_inputs m.inputs takes stop.call stop.kept) (kept_commit old.commit takes stop.call stop.kept) left journal in
    let so = stopped_is i.header old i.crash i.next c.args.arrived m few c.requires.small c.on.new.self.disk stop c.in-Some.is failed.0 failed.1 again opened c.keeps_input-kept.result c.keeps_input-kept.ensures in
    ap (λ (v : Managed). let d : LineDone = record { now = v; outcome = outcome.Stopped c.keeps_input-kept.result } in d) c.over-managing.ensures
    ∙ so ∙ ap (λ (v : Managed). input_given v (given c.args.arrived)) c.self.view_is

-- ---- what can't come

pub unreachable-requires-in-Err-Because-NoEncoding : goal.unreachable-requires-in-Err-Because-NoEncoding
unreachable-requires-in-Err-Because-NoEncoding c =
    let refused = rw (c.in-Err-Because-NoEncoding.field-0-is, c.in-Err-Because-NoEncoding.field-0-0-is) at c.in-Err-Because-NoEncoding.ensures.err in absurd (encoded c.args.arrived c.requires.small refused.1)

pub unreachable-requires-in-Err-Because-Full : goal.unreachable-requires-in-Err-Because-Full
unreachable-requires-in-Err-Because-Full c =
    let i = c.self.inside in
    let few : i.manager.stand.count < step_limit = subst (λ (v : Managed). v.decisions < step_limit) (sym c.self.view_is) c.requires.few in
    let refused = rw (c.in-Err-Because-Full.field-0-is, c.in-Err-Because-Full.field-0-0-is) at c.in-Err-Because-Full.ensures.err in
    absurd (has_room i.header i.manager i.crash c.args.arrived c.self.invariant c.requires.small few refused.2)

pub unreachable-requires-in-Err-Because-Spent : goal.unreachable-requires-in-Err-Because-Spent
unreachable-requires-in-Err-Because-Spent c =
    let spent = rw (c.in-Err-Because-Spent.field-0-is, c.in-Err-Because-Spent.field-0-0-is) at c.in-Err-Because-Spent.ensures.err in absurd (cc (spent.0, c.self.invariant.fresh))
