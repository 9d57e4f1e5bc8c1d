use Rattle.std.proofs.Common.{refl}
use Rattle.curp_io.specs.Streaming.{wrote_of}
use Rattle.curp_runner.proofs.Endings.{closed_read_fault, closed_text}
use Rattle.curp_play.proofs.play.play_script.Goals as goal

pub returns-clause-wrote : goal.returns-clause-wrote
returns-clause-wrote g c = λ told.
    closed_text _ (wrote_of g.K.Sink.tells g.K.Sink.held g.K.Sink.flushed g.K.Sink.faults c.args.sink.now c.run-played.new.sink)
    (wrote_of g.K.Sink.tells g.K.Sink.held g.K.Sink.flushed g.K.Sink.faults c.args.sink.now c.close.new.sink) c.run-played.result c.close.result refl refl
    (λ tells. c.close.ensures.held (c.run-played.ensures.tells tells)) c.close.ensures.ends (c.run-played.ensures.wrote told)

pub returns-clause-read_fault : goal.returns-clause-read_fault
returns-clause-read_fault g c =
    closed_read_fault c.run-played.result c.close.result _ _ c.close.ensures.ends (λ fault. (c.close.ensures.stays fault).0) c.run-played.ensures.read_fault
