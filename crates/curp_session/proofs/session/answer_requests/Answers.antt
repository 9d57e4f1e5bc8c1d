use Rattle.std.proofs.Common.{refl}
use Rattle.curp_io.specs.Streaming.{wrote_of}
use Rattle.curp_runner.proofs.Endings.{closed_read_fault, closed_text}
use Rattle.curp_session.proofs.session.answer_requests.Goals as goal

pub returns-clause-wrote : goal.returns-clause-wrote
returns-clause-wrote g c = λ requests rest told d.
    let its = c.answer_all-answered.ensures.finishes requests rest told d in
    closed_text _ (wrote_of g.K.Sink.tells g.K.Sink.held g.K.Sink.flushed g.K.Sink.faults c.args.sink.now c.answer_all-answered.new.sink)
    (wrote_of g.K.Sink.tells g.K.Sink.held g.K.Sink.flushed g.K.Sink.faults c.args.sink.now c.close.new.sink) c.answer_all-answered.result c.close.result refl refl
    (λ tells. c.close.ensures.held (c.answer_all-answered.ensures.tells tells)) c.close.ensures.ends (record { whole = its.wrote; prefix = its.prefix })

pub returns-clause-read_fault : goal.returns-clause-read_fault
returns-clause-read_fault g c =
    closed_read_fault c.answer_all-answered.result c.close.result _ _ c.close.ensures.ends (λ fault. (c.close.ensures.stays fault).0) c.answer_all-answered.ensures.read_fault
