use Rattle.std.proofs.Common.{sym, subst}
use Rattle.curp_durable.specs.Opening.{LedTo}
use Rattle.curp_durable.proofs.Settling.{has_settled, opened_settled}
use Rattle.curp_durable.proofs.Unique.{of_the_moment, one_commit}
use Rattle.curp_durable.proofs.durable.Durable.open_from.Goals as goal

pub invariant_of-result : goal.invariant_of-result
invariant_of-result g c = (
  λ told _.
      let D = g.D.Disk in
      let machine = g.N.Core.machine in
      let seen = D.seen c.args.disk in
      let from = c.requires told in
      let led = subst (LedTo machine seen from.0 from.1) (sym c.checkpoint.view_is) from.2 in
      has_settled machine D.seen D.may_leave D.moment D.left_since g.met.D.Disk.only_now seen c.resume.new.disk c.in-Ok.stand c.in-Ok.commit from.0 from.1 c.resume.ensures.quiet.same (c.in-Ok.ensures.ok from.0 from.1 told led) (c.in-Ok.ensures.durable told),
  c.in-Ok.ensures.within,
)

pub returns-in-Ok-clause-journal : goal.returns-in-Ok-clause-journal
returns-in-Ok-clause-journal g c = λ title opening inputs told led h.
    let D = g.D.Disk in
    let machine = g.N.Core.machine in
    let seen = D.seen c.args.disk in
    let there = subst (LedTo machine seen title opening) (sym c.checkpoint.view_is) led in
    opened_settled machine D.seen D.may_leave D.moment D.left_since g.met.D.Disk.only_now seen c.resume.new.disk c.in-Ok.stand c.in-Ok.commit title opening inputs c.resume.ensures.quiet.same (c.in-Ok.ensures.ok title opening told there) (c.in-Ok.ensures.durable told) h

pub returns-in-Ok-clause-commit : goal.returns-in-Ok-clause-commit
returns-in-Ok-clause-commit g c = λ title opening inputs commit told led h.
    let seen = g.D.Disk.seen c.args.disk in
    let there = subst (LedTo g.N.Core.machine seen title opening) (sym c.checkpoint.view_is) led in
    let o = c.in-Ok.ensures.ok title opening told there in
    one_commit seen title o.batches h.batches c.in-Ok.commit commit o.reads h.reads

pub returns-in-Err-clause-err : goal.returns-in-Err-clause-err
returns-in-Err-clause-err g c = λ title opening told led.
    c.in-Err.ensures.err title opening told (subst (LedTo g.N.Core.machine (g.D.Disk.seen c.args.disk) title opening) (sym c.checkpoint.view_is) led)

pub returns-in-Err-clause-journal_err : goal.returns-in-Err-clause-journal_err
returns-in-Err-clause-journal_err g c = λ title opening inputs told led h.
    let seen = g.D.Disk.seen c.args.disk in
    let there = subst (LedTo g.N.Core.machine seen title opening) (sym c.checkpoint.view_is) led in
    of_the_moment seen title c.in-Err.error inputs (c.in-Err.ensures.err title opening told there) h
