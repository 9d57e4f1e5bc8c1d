use Rattle.std.proofs.Common.{◌∙◌, ◌++◌, ℕ, List, ap, sym, subst}
use Rattle.curp_durable.specs.Standing.{taken}
use Rattle.curp_filter.specs.Coming.{came_together}
use Rattle.curp_filter.specs.Keeping.{Outlasts, kind}
use Rattle.curp_filter.specs.Saying.{text_of}
use Rattle.curp_filter.specs.Turning.{EndsAnswering, EndsSaying, MovesBy, Unanswered, outlet}
use Rattle.curp_io.specs.Streams.{HoldsPart}
use Rattle.curp_filter.specs.declared.end.FilterEnd.TheVariants as end
use Rattle.curp_filter.proofs.Coming.{arrivals_together}
use Rattle.curp_filter.proofs.Replies.{ends_silent, unanswered_part, unanswered_silent, wrote_text}
use Rattle.curp_filter.proofs.Running.{passed_on}
use Rattle.curp_filter.proofs.Together.{never_both, same_error}
use Rattle.curp_filter.proofs.answering.answer.Goals as goal

pub returns-in_err-said-clause-unanswered : goal.returns-in_err-said-clause-unanswered
returns-in_err-said-clause-unanswered g c =
    let machine = g.N.Core.machine in
    let D = g.D.Disk in
    let K = g.K.Sink in
    let disk = kind D.tells D.seen D.may_leave D.moment D.left_since D.faults in
    let inputs = c.args.batch.arrived.items in
    let cames = came_together inputs c.args.batch.last in
    let sink = outlet (K.held c.args.sink.now) (K.tells c.args.sink.now) (K.faults c.args.sink.now) (K.flushed c.args.sink.now) in
    let it = c.in_err-said.field-0.0 in
    passed_on (Unanswered machine disk cames c.args.number c.args.node.now c.say.new.node sink sink) c.from_residual.result it c.from_residual.ensures.1
    (unanswered_silent machine disk cames c.args.number c.args.node.now c.say.new.node sink it
    (subst (λ l. Outlasts machine disk (taken machine c.args.node.now.stand l) c.args.node.now c.say.new.node) (sym (arrivals_together inputs c.args.batch.last)) c.say.ensures.outlasts)
    c.say.ensures.disk_faults)

pub returns-in_err-said-clause-cause : goal.returns-in_err-said-clause-cause
returns-in_err-said-clause-cause g c =
    let D = g.D.Disk in
    let K = g.K.Sink in
    let disk = kind D.tells D.seen D.may_leave D.moment D.left_since D.faults in
    let inputs = c.args.batch.arrived.items in
    let cames = came_together inputs c.args.batch.last in
    let sink = outlet (K.held c.args.sink.now) (K.tells c.args.sink.now) (K.faults c.args.sink.now) (K.flushed c.args.sink.now) in
    let it = c.in_err-said.field-0.0 in
    passed_on (EndsAnswering disk cames c.args.node.now c.say.new.node sink sink) c.from_residual.result it c.from_residual.ensures.1
    (ends_silent g.N.Core.machine disk it cames c.args.node.now c.say.new.node sink
    (subst (λ l. EndsSaying D.faults l c.args.node.now c.say.new.node it) (sym (arrivals_together inputs c.args.batch.last)) c.in_err-said.ensures.cause))

pub returns-in_err-write_text-clause-unanswered : goal.returns-in_err-write_text-clause-unanswered
returns-in_err-write_text-clause-unanswered g c =
    let machine = g.N.Core.machine in
    let D = g.D.Disk in
    let K = g.K.Sink in
    let disk = kind D.tells D.seen D.may_leave D.moment D.left_since D.faults in
    let inputs = c.args.batch.arrived.items in
    let cames = came_together inputs c.args.batch.last in
    let before = outlet (K.held c.args.sink.now) (K.tells c.args.sink.now) (K.faults c.args.sink.now) (K.flushed c.args.sink.now) in
    let behind = outlet (K.held c.write_text.new.sink) (K.tells c.write_text.new.sink) (K.faults c.write_text.new.sink) (K.flushed c.write_text.new.sink) in
    let it = c.in_err-write_text.field-0.0 in
    passed_on (Unanswered machine disk cames c.args.number c.args.node.now c.say.new.node before behind) c.from_residual-in_err-write_text.result it c.from_residual-in_err-write_text.ensures.1
    (unanswered_part machine disk cames c.args.number c.args.node.now c.say.new.node before behind it
    (subst (λ l. MovesBy machine disk l c.args.node.now c.say.new.node) (sym (arrivals_together inputs c.args.batch.last)) c.in_ok-said.ensures.moved)
    (λ told. subst (λ l. HoldsPart (K.held c.args.sink.now) (K.held c.write_text.new.sink) l) (c.deref.ensures.value ∙ c.in_ok-said.ensures.text) (c.write_text.ensures.part told))
    c.write_text.ensures.tells (λ other. c.write_text.ensures.write_fault.stands (λ is. other (same_error c.write_text.result it end.WriteFault c.in_err-write_text.was is))))

pub returns-clause-moved : goal.returns-clause-moved
returns-clause-moved g c =
    let D = g.D.Disk in
    subst (λ l. MovesBy g.N.Core.machine (kind D.tells D.seen D.may_leave D.moment D.left_since D.faults) l c.args.node.now c.say.new.node)
    (sym (arrivals_together c.args.batch.arrived.items c.args.batch.last)) c.in_ok-said.ensures.moved

pub returns-clause-wrote : goal.returns-clause-wrote
returns-clause-wrote g c =
    let K = g.K.Sink in
    let cames = came_together c.args.batch.arrived.items c.args.batch.last in
    wrote_text (text_of g.N.Core.machine c.args.node.now.stand c.args.number cames)
    (outlet (K.held c.args.sink.now) (K.tells c.args.sink.now) (K.faults c.args.sink.now) (K.flushed c.args.sink.now))
    (outlet (K.held c.write_text.new.sink) (K.tells c.write_text.new.sink) (K.faults c.write_text.new.sink) (K.flushed c.write_text.new.sink))
    (λ told. c.in_ok-write_text.ensures.wrote told ∙ ap (λ (t : List ℕ). K.held c.args.sink.now ++ t) (c.deref.ensures.value ∙ c.in_ok-said.ensures.text))
    c.write_text.ensures.tells (c.write_text.ensures.write_fault.stands (λ is. never_both c.write_text.result _ end.WriteFault c.in_ok-write_text.was is)) c.in_ok-write_text.ensures.passed_on
