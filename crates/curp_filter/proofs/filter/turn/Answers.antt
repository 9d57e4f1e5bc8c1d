use Rattle.std.proofs.Common.{◌∙◌, Err, ap, subst}
use Rattle.curp_filter.specs.Coming.{came_together}
use Rattle.curp_filter.specs.Keeping.{kind}
use Rattle.curp_filter.specs.Taking.{AreJudgedTogether}
use Rattle.curp_filter.specs.Turning.{Breaks, intake, outlet, point}
use Rattle.curp_filter.proofs.Judging.{judged_together}
use Rattle.curp_filter.proofs.Running.{answered_breaks, answered_counts, answered_turned, breaks_asking, passed_on}
use Rattle.curp_filter.specs.declared.end.FilterEnd.TheVariants as end
use Rattle.curp_filter.proofs.Together.{never_both, same_error}
use Rattle.curp_filter.proofs.filter.turn.Goals as goal

pub returns-in_err-batch-clause-breaks : goal.returns-in_err-batch-clause-breaks
returns-in_err-batch-clause-breaks g c =
    let machine = g.N.Core.machine in
    let D = g.D.Disk in
    let S = g.S.Source in
    let K = g.K.Sink in
    let disk = kind D.tells D.seen D.may_leave D.moment D.left_since D.faults in
    let sink = outlet (K.held c.args.sink.now) (K.tells c.args.sink.now) (K.faults c.args.sink.now) (K.flushed c.args.sink.now) in
    let old = point (intake c.args.parcels.now (S.left c.args.source.now) (S.tells c.args.source.now) (S.faults c.args.source.now)) c.args.number c.args.node.now sink in
    let source = intake c.gather.new.parcels (S.left c.gather.new.source) (S.tells c.gather.new.source) (S.faults c.gather.new.source) in
    let it = c.in_err-batch.field-0.0 in
    passed_on (Breaks machine disk c.args.role old (point source c.args.number c.args.node.now sink)) c.from_residual.result it c.from_residual.ensures.1
    (breaks_asking machine disk c.args.role g.met.D.Disk.only_now it old source c.in_err-batch.ensures.of_gathering c.in_err-batch.ensures.ends c.gather.ensures.tells
    (λ is. c.gather.ensures.read_fault.rose (c.in_err-batch.was ∙ ap (λ e. Err e) is)) (λ other. c.gather.ensures.read_fault.stands (λ is. other (same_error c.gather.result it end.ReadFault c.in_err-batch.was is))))

pub returns-clause-turned : goal.returns-clause-turned
returns-clause-turned g c =
    let D = g.D.Disk in
    let batch = c.in_ok-batch.batch in
    answered_turned g.N.Core.machine (kind D.tells D.seen D.may_leave D.moment D.left_since D.faults) c.args.role c.answer.result (came_together batch.arrived.items batch.last) _ _ _ _
    (judged_together g.N.Core.machine c.args.role batch.arrived.items batch.last c.args.node.now.stand
    (subst (λ n. AreJudgedTogether c.args.role n batch.arrived.items batch.last) c.count.ensures c.in_ok-batch.ensures.judged))
    (record { comes = c.in_ok-batch.ensures.gathers; tells = c.gather.ensures.tells; same_faults = c.gather.ensures.read_fault.stands (λ is. never_both c.gather.result batch end.ReadFault c.in_ok-batch.was is) })
    c.answer.ensures.moved c.answer.ensures.wrote c.answer.ensures.counted

pub returns-clause-breaks : goal.returns-clause-breaks
returns-clause-breaks g c =
    let D = g.D.Disk in
    let batch = c.in_ok-batch.batch in
    answered_breaks g.N.Core.machine (kind D.tells D.seen D.may_leave D.moment D.left_since D.faults) c.args.role c.answer.result (came_together batch.arrived.items batch.last) _ _
    (judged_together g.N.Core.machine c.args.role batch.arrived.items batch.last c.args.node.now.stand
    (subst (λ n. AreJudgedTogether c.args.role n batch.arrived.items batch.last) c.count.ensures c.in_ok-batch.ensures.judged))
    (record { comes = c.in_ok-batch.ensures.gathers; tells = c.gather.ensures.tells; same_faults = c.gather.ensures.read_fault.stands (λ is. never_both c.gather.result batch end.ReadFault c.in_ok-batch.was is) })
    c.answer.ensures.unanswered c.answer.ensures.cause

pub returns-clause-counts : goal.returns-clause-counts
returns-clause-counts g c =
    let batch = c.in_ok-batch.batch in
    answered_counts c.answer.result c.args.number (came_together batch.arrived.items batch.last) c.in_ok-batch.ensures.some c.answer.ensures.counted
