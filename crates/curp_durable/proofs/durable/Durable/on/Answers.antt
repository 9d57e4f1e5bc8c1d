use Rattle.std.proofs.Common.{◌++◌, List, ap, subst, ◌∙◌}
use Rattle.curp_disk.specs.Disk.{LeavesOnly}
use Rattle.curp_journal.specs.declared.arrived.Arrived.{Arrived}
use Rattle.curp_durable.specs.Answering.{RefusesBatch}
use Rattle.curp_durable.specs.Journal.{IsBeforeOrAfter, IsSettled}
use Rattle.curp_durable.specs.Running.{AllMade, RanUntil, calls_for, commit_behind}
use Rattle.curp_durable.specs.Standing.{after, answer_of, answers_of, taken}
use Rattle.curp_durable.proofs.Lone.{done_told}
use Rattle.curp_durable.proofs.durable.Durable.on.Goals as goal

-- ---- the batch is answered

pub returns-in-Ok-on_all-clause-done : goal.returns-in-Ok-on_all-clause-done
returns-in-Ok-on_all-clause-done g c =
    let N = g.N.Core in
    let s = c.args.self.now.stand in
    c.done_in.ensures (answer_of N.machine s c.args.arrived) (c.in-Ok-on_all.ensures.answers ∙ ap (answers_of N.machine s) c.in-Ok.ensures)
    ∙ done_told N.machine g.met.N.Core.refusals g.met.N.Core.messages_taken s c.args.arrived

pub returns-in-Ok-on_all-clause-state : goal.returns-in-Ok-on_all-clause-state
returns-in-Ok-on_all-clause-state g c = c.in-Ok-on_all.ensures.state ∙ ap (after g.N.Core.machine c.args.self.now.stand) c.in-Ok.ensures

pub returns-in-Ok-on_all-clause-commit : goal.returns-in-Ok-on_all-clause-commit
returns-in-Ok-on_all-clause-commit g c =
    c.in-Ok-on_all.ensures.commit ∙ ap (λ (l : List Arrived). commit_behind c.args.self.now.commit (taken g.N.Core.machine c.args.self.now.stand l)) c.in-Ok.ensures

pub returns-in-Ok-on_all-clause-ran : goal.returns-in-Ok-on_all-clause-ran
returns-in-Ok-on_all-clause-ran g c =
    let D = g.D.Disk in
    let old = c.args.self.now in
    subst (λ (l : List Arrived). AllMade D.wrote D.synced (calls_for old.commit (taken g.N.Core.machine old.stand l)) old.disk c.on_all.new.self.disk) c.in-Ok.ensures c.in-Ok-on_all.ensures.ran

pub returns-in-Ok-on_all-clause-kept : goal.returns-in-Ok-on_all-clause-kept
returns-in-Ok-on_all-clause-kept g c title opening so_far told was settled =
    let machine = g.N.Core.machine in
    let D = g.D.Disk in
    let new = c.on_all.new.self in
    subst (λ (l : List Arrived). IsSettled machine D.seen D.may_leave new.disk new.stand new.commit title opening (so_far ++ taken machine c.args.self.now.stand l)) c.in-Ok.ensures
    (c.in-Ok-on_all.ensures.kept title opening so_far told was settled)

pub returns-in-Ok-on_all-clause-any_moment : goal.returns-in-Ok-on_all-clause-any_moment
returns-in-Ok-on_all-clause-any_moment g c title opening so_far told fresh settled =
    let machine = g.N.Core.machine in
    let D = g.D.Disk in
    let old = c.args.self.now in
    subst (λ (l : List Arrived). LeavesOnly D.moment D.left_since old.disk c.on_all.new.self.disk (IsBeforeOrAfter title so_far (taken machine old.stand l))) c.in-Ok.ensures
    (c.in-Ok-on_all.ensures.any_moment title opening so_far told fresh settled)

-- ---- and is not

pub returns-in-Err-clause-err : goal.returns-in-Err-clause-err
returns-in-Err-clause-err g c =
    subst (λ (l : List Arrived). RefusesBatch g.D.Disk.faults c.args.self.now c.on_all.new.self l c.in-Err.why) c.in-Ok.ensures c.in-Err.ensures.err

pub returns-in-Err-clause-ran_err : goal.returns-in-Err-clause-ran_err
returns-in-Err-clause-ran_err g c =
    let D = g.D.Disk in
    let old = c.args.self.now in
    subst (λ (l : List Arrived). RanUntil D.wrote D.synced old.commit (taken g.N.Core.machine old.stand l) old.disk c.on_all.new.self.disk c.in-Err.why) c.in-Ok.ensures c.in-Err.ensures.ran_err

pub returns-in-Err-clause-any_moment : goal.returns-in-Err-clause-any_moment
returns-in-Err-clause-any_moment g c title opening so_far told fresh settled =
    let machine = g.N.Core.machine in
    let D = g.D.Disk in
    let old = c.args.self.now in
    subst (λ (l : List Arrived). LeavesOnly D.moment D.left_since old.disk c.on_all.new.self.disk (IsBeforeOrAfter title so_far (taken machine old.stand l))) c.in-Ok.ensures
    (c.on_all.ensures.any_moment title opening so_far told fresh settled)
