use Rattle.std.proofs.Common.{◌+◌, ◌++◌, ◌∙◌, ap, Bool, List, ℕ, Result, Ok, refl, sym, subst}
use Rattle.curp_runner.specs.declared.status.Status.{Status}
use Rattle.curp_runner.specs.declared.status.Status.TheVariants as status
use Rattle.curp_runner.specs.Status.{is_cut_short}
use Rattle.curp_session.specs.Answering.{AnswersNext, HasAnswered}
use Rattle.curp_session.specs.Session.{session}
use Rattle.curp_session.proofs.Standing.{broken_cut, cut_by_writing, ends_with, finishes_broken, finishes_cut, finishes_end, finishes_there, stands_on, still_stands}
use Rattle.curp_session.proofs.Taken.{answered_lost, answered_more}
use Rattle.curp_session.proofs.session.answer_next.Goals as goal

pub returns-in_err-next-clause-next : goal.returns-in_err-next-clause-next
returns-in_err-next-clause-next g c = λ aim tells o f e told sinks h.
    let new = g.K.Sink.held c.next_request.new.sink in
    let stop = c.in_err-next.field-0.0 in
    subst (λ (r : Result Bool Status). AnswersNext aim tells new c.args.served.now.state (c.args.count + 1)
    (c.next_request.new.requests.ahead ++ g.S.Source.left c.next_request.new.source) c.next_request.new.requests.passed r)
    (sym (ends_with c.from_residual.result stop c.from_residual.ensures.1))
    (finishes_cut aim tells new c.args.served.now.state c.args.count _ _ stop
    (still_stands aim tells (g.K.Sink.held c.args.sink.now) new _ _ _ _ h (λ t. c.next_request.ensures.held (sinks t)))
    (ap is_cut_short c.in_err-next.ensures.stops))

pub returns-in_err-answer-in-Asked-clause-next : goal.returns-in_err-answer-in-Asked-clause-next
returns-in_err-answer-in-Asked-clause-next g c = λ aim tells o f e told sinks h.
    let its = c.in_err-answer-in-Asked.ensures in
    let old = g.K.Sink.held c.next_request.new.sink in
    let new = g.K.Sink.held c.answer.new.sink in
    let stop = c.in_err-answer-in-Asked.field-0.0 in
    let here = still_stands aim tells (g.K.Sink.held c.args.sink.now) old _ _ _ _ h (λ t. c.next_request.ensures.held (sinks t)) in
    subst (λ (r : Result Bool Status). AnswersNext aim tells new c.answer.new.served.state (c.args.count + 1)
    (c.next_request.new.requests.ahead ++ g.S.Source.left c.next_request.new.source) c.next_request.new.requests.passed r)
    (sym (ends_with c.from_residual-in_err-answer-in-Asked.result stop c.from_residual-in_err-answer-in-Asked.ensures.1))
    (finishes_there aim tells old new c.args.served.now.state c.args.count _ _ _ _ c.in-Asked.asked stop here
    (rw c.in-Asked.is at c.in_ok-next.ensures.bytes told)
    (λ still. rw (← e) at its.limit here.now here.at still)
    (λ script still before. rw (← e) at its.printable here.now here.at (sym o ∙ script) still before)
    (λ t still is. rw (← o, ← f, ← e) at its.wrote here.now aim.before (c.next_request.ensures.tells (sinks t)) here.at is still)
    (λ t is. rw (← o, ← f, ← e) at its.prefix here.now aim.before (c.next_request.ensures.tells (sinks t)) here.at is))

pub returns-in_ok-answer-in-Asked-clause-next : goal.returns-in_ok-answer-in-Asked-clause-next
returns-in_ok-answer-in-Asked-clause-next g c = λ aim tells o f e told sinks h.
    let its = c.in_ok-answer-in-Asked.ensures in
    let old = g.K.Sink.held c.next_request.new.sink in
    let new = g.K.Sink.held c.answer.new.sink in
    let here = still_stands aim tells (g.K.Sink.held c.args.sink.now) old _ _ _ _ h (λ t. c.next_request.ensures.held (sinks t)) in
    stands_on aim tells old new c.args.served.now.state c.answer.new.served.state c.args.count _ _ _ _ c.in-Asked.asked here
    (rw c.in-Asked.is at c.in_ok-next.ensures.bytes told) its.counted
    (rw (← e) at its.limit here.now here.at refl)
    (rw (← e) at its.state here.now here.at)
    (λ script before. rw (← e) at its.printable here.now here.at (sym o ∙ script) refl before)
    (λ t is. rw (← o, ← f, ← e) at its.wrote here.now aim.before (c.next_request.ensures.tells (sinks t)) here.at is refl)

pub returns-in_ok-answer-in-Asked-clause-reads : goal.returns-in_ok-answer-in-Asked-clause-reads
returns-in_ok-answer-in-Asked-clause-reads g c = λ plan input before o f e told sinks h ok.
    let its = c.in_ok-answer-in-Asked.ensures in
    let old = g.K.Sink.held c.next_request.new.sink in
    let new = g.K.Sink.held c.answer.new.sink in
    let here : HasAnswered plan input before old c.args.served.now.state c.args.count (c.args.requests.now.ahead ++ g.S.Source.left c.args.source.now) =
    subst (λ (held : List ℕ). HasAnswered plan input before held c.args.served.now.state c.args.count
    (c.args.requests.now.ahead ++ g.S.Source.left c.args.source.now)) (sym (c.next_request.ensures.held sinks)) h in
    let now = session plan here.requests in
    answered_more plan input before old new c.args.served.now.state c.answer.new.served.state c.args.count _ _ _ _ c.in-Asked.asked here
    (rw c.in-Asked.is at c.in_ok-next.ensures.bytes told) its.counted
    (rw (← e) at its.limit now here.at refl)
    (rw (← e) at its.state now here.at)
    (rw (← o, ← f, ← e) at its.wrote now before (c.next_request.ensures.tells sinks) here.at here.wrote refl)

pub returns-in-End-clause-next : goal.returns-in-End-clause-next
returns-in-End-clause-next g c = λ aim tells o f e told sinks h.
    let new = g.K.Sink.held c.next_request.new.sink in
    let here = still_stands aim tells (g.K.Sink.held c.args.sink.now) new _ _ _ _ h (λ t. c.next_request.ensures.held (sinks t)) in
    finishes_end aim tells new c.args.served.now.state c.args.count _ _ here (rw c.in-End.is at c.in_ok-next.ensures.bytes told).0

pub returns-in-ReadFault-clause-next : goal.returns-in-ReadFault-clause-next
returns-in-ReadFault-clause-next g c = λ aim tells o f e told sinks h.
    let new = g.K.Sink.held c.next_request.new.sink in
    let here = still_stands aim tells (g.K.Sink.held c.args.sink.now) new _ _ _ _ h (λ t. c.next_request.ensures.held (sinks t)) in
    finishes_cut aim tells new c.args.served.now.state c.args.count _ _ status.ReadFault here refl

pub returns-in-ReadFault-clause-at_fault : goal.returns-in-ReadFault-clause-at_fault
returns-in-ReadFault-clause-at_fault g c = λ plan input before o f e told sinks h failed.
    answered_lost plan input before (g.K.Sink.held c.args.sink.now) (g.K.Sink.held c.next_request.new.sink) c.args.served.now.state c.args.count _
    c.next_request.new.requests.ahead (g.S.Source.left c.next_request.new.source) h (rw c.in-ReadFault.is at c.in_ok-next.ensures.bytes told)
    (c.next_request.ensures.none_ahead (c.in_ok-next.was ∙ ap Ok c.in-ReadFault.is)) (c.next_request.ensures.held sinks)

pub returns-in_ok-write_protocol-in-BadRequest-clause-next : goal.returns-in_ok-write_protocol-in-BadRequest-clause-next
returns-in_ok-write_protocol-in-BadRequest-clause-next g c = λ aim tells o f e told sinks h.
    let old = g.K.Sink.held c.next_request.new.sink in
    let here = still_stands aim tells (g.K.Sink.held c.args.sink.now) old _ _ _ _ h (λ t. c.next_request.ensures.held (sinks t)) in
    finishes_broken aim tells old (g.K.Sink.held c.write_protocol.new.sink) c.args.served.now.state c.args.count _ _ _ c.in-BadRequest.at here
    (rw c.in-BadRequest.is at c.in_ok-next.ensures.bytes told)
    (λ t. rw (← o) at c.in_ok-write_protocol-in-BadRequest.ensures.whole (c.next_request.ensures.tells (sinks t)))

pub returns-in_err-write_protocol-in-BadRequest-clause-next : goal.returns-in_err-write_protocol-in-BadRequest-clause-next
returns-in_err-write_protocol-in-BadRequest-clause-next g c = λ aim tells o f e told sinks h.
    let its = c.in_err-write_protocol-in-BadRequest.ensures in
    let old = g.K.Sink.held c.next_request.new.sink in
    let new = g.K.Sink.held c.write_protocol.new.sink in
    let stop = c.in_err-write_protocol-in-BadRequest.field-0.0 in
    let here = still_stands aim tells (g.K.Sink.held c.args.sink.now) old _ _ _ _ h (λ t. c.next_request.ensures.held (sinks t)) in
    subst (λ (r : Result Bool Status). AnswersNext aim tells new c.args.served.now.state (c.args.count + 1)
    (c.next_request.new.requests.ahead ++ g.S.Source.left c.next_request.new.source) c.next_request.new.requests.passed r)
    (sym (ends_with c.from_residual-in_err-write_protocol-in-BadRequest.result stop c.from_residual-in_err-write_protocol-in-BadRequest.ensures.1))
    (broken_cut aim tells old new c.args.served.now.state c.args.count _ _ _ c.in-BadRequest.at stop here
    (rw c.in-BadRequest.is at c.in_ok-next.ensures.bytes told) (cut_by_writing stop its.writing)
    (λ t. rw (← o) at its.prefix (c.next_request.ensures.tells (sinks t))))
