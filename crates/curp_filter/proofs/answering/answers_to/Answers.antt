use Rattle.std.proofs.Common.{refl}
use Rattle.curp_durable.specs.Standing.{taken}
use Rattle.curp_filter.specs.Keeping.{kind}
use Rattle.curp_filter.proofs.Keeping.{outlasts_batch}
use Rattle.curp_filter.proofs.Replies.{moves_batch}
use Rattle.curp_filter.proofs.answering.answers_to.Goals as goal

pub returns-clause-moved : goal.returns-clause-moved
returns-clause-moved g c =
    let machine = g.N.Core.machine in
    let D = g.D.Disk in
    let disk = kind D.tells D.seen D.may_leave D.moment D.left_since D.faults in
    let inputs = c.args.arrived.items in
    let old = c.args.node.now in
    moves_batch machine disk g.met.D.Disk.only_now inputs old c.on_all.new.self c.in_ok-on_all.ensures.state
    (λ title opening before told s. c.in_ok-on_all.ensures.kept title opening before told refl s)
    (outlasts_batch machine disk g.met.D.Disk.only_now (taken machine old.stand inputs) old c.on_all.new.self (λ title opening before told fresh s. c.on_all.ensures.any_moment title opening before told fresh s))
    c.in_ok-on_all.ensures.goes_on.1 c.on_all.ensures.limit c.on_all.ensures.never_falls

pub returns-clause-outlasts : goal.returns-clause-outlasts
returns-clause-outlasts g c =
    let machine = g.N.Core.machine in
    let D = g.D.Disk in
    outlasts_batch machine (kind D.tells D.seen D.may_leave D.moment D.left_since D.faults) g.met.D.Disk.only_now (taken machine c.args.node.now.stand c.args.arrived.items) c.args.node.now c.on_all.new.self
    (λ title opening before told fresh s. c.on_all.ensures.any_moment title opening before told fresh s)

pub returns-in_err-on_all-clause-outlasts : goal.returns-in_err-on_all-clause-outlasts
returns-in_err-on_all-clause-outlasts g c =
    let machine = g.N.Core.machine in
    let D = g.D.Disk in
    outlasts_batch machine (kind D.tells D.seen D.may_leave D.moment D.left_since D.faults) g.met.D.Disk.only_now (taken machine c.args.node.now.stand c.args.arrived.items) c.args.node.now c.on_all.new.self
    (λ title opening before told fresh s. c.on_all.ensures.any_moment title opening before told fresh s)
