use Rattle.std.proofs.lemmas.Result.{IfOk-at_ok}
use Rattle.std.proofs.Common.{◌≡◌}
use Rattle.curp_durable.specs.Standing.{after, answers_of}
use Rattle.curp_law_lives.proofs.Events.{answers, cut_off, is_ok, where_err, where_ok}
use Rattle.curp_law_lives.proofs.calls.batch_happens.Goals as goal

pub returns-clause-happens : goal.returns-clause-happens
returns-clause-happens g c title opening held answered told settled =
    let D = g.D.Disk in
    let machine = g.N.Core.machine in
    let old = c.args.durable.now in
    let new = c.on_all.new.self in
    let batch = c.args.inputs.items in
    where_ok c.on_all.result _ (λ out is. answers machine title opening D.seen D.may_leave old.disk new.disk old.stand new.stand old.commit new.commit held batch answered out.items settled
    (c.on_all.ensures.kept title opening held told (is_ok c.on_all.result out is) settled)
    (IfOk-at_ok (λ _. new.stand ≡ after machine old.stand batch) is c.on_all.ensures.state)
    (IfOk-at_ok (λ a. a.items ≡ answers_of machine old.stand batch) is c.on_all.ensures.answers))

pub returns-clause-cut_off : goal.returns-clause-cut_off
returns-clause-cut_off g c title opening held answered left told unspent settled leaves =
    let D = g.D.Disk in
    let old = c.args.durable.now in
    cut_off g.N.Core.machine title opening D.seen D.may_leave old.disk old.stand old.commit held c.args.inputs.items answered left settled
    ((c.on_all.ensures.any_moment title opening held told unspent settled).each left leaves)

pub returns-clause-gives_up : goal.returns-clause-gives_up
returns-clause-gives_up g c title opening held answered told unspent settled =
    let D = g.D.Disk in
    let old = c.args.durable.now in
    let new = c.on_all.new.self in
    let any_moment = c.on_all.ensures.any_moment title opening held told unspent settled in
    let leaves = g.met.D.Disk.counts_now new.disk (D.moment old.disk) (D.seen new.disk) any_moment.later (g.met.D.Disk.reads_now new.disk) in
    where_err c.on_all.result _ (cut_off g.N.Core.machine title opening D.seen D.may_leave old.disk old.stand old.commit held c.args.inputs.items answered (D.seen new.disk) settled (any_moment.each (D.seen new.disk) leaves))
