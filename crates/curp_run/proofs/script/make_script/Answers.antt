use Rattle.std.proofs.Common.{refl}
use Rattle.curp_io.specs.Streaming.{wrote_of}
use Rattle.curp_runner.proofs.Endings.{closed_text}
use Rattle.curp_run.proofs.Puts.{put_writes}
use Rattle.curp_run.proofs.script.make_script.Goals as goal

pub returns-clause-wrote : goal.returns-clause-wrote
returns-clause-wrote g c =
    let K = g.K.Sink in
    let made = wrote_of K.tells K.held K.flushed K.faults c.args.sink.now c.write_made-made.new.sink in
    let closed = wrote_of K.tells K.held K.flushed K.faults c.args.sink.now c.close.new.sink in
    closed_text _ made closed c.write_made-made.result c.close.result refl refl (λ tells. c.close.ensures.held (c.write_made-made.ensures.puts.tells tells))
    c.close.ensures.ends (put_writes _ made c.write_made-made.result c.write_made-made.ensures.puts)
