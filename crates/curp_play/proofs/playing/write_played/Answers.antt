use Rattle.std.proofs.Common.{sym, subst}
use Rattle.curp_io.specs.Streams.{HoldsPart}
use Rattle.curp_play.specs.Show.{played}
use Rattle.curp_play.proofs.Parts.{played_prefix, script_prefix}
use Rattle.curp_play.proofs.playing.write_played.Goals as goal

pub returns-in-Ok-clause-prefix : goal.returns-in-Ok-clause-prefix
returns-in-Ok-clause-prefix g c = λ tells.
    played_prefix c.args.text.now (g.K.Sink.held c.args.sink.now) (g.K.Sink.held c.write_script.new.sink) (g.K.Sink.held c.play_text.new.sink)
    (c.in-Ok.ensures.whole tells) (c.play_text.ensures.prefix (c.write_script.ensures.tells tells))

pub returns-in-Err-clause-prefix : goal.returns-in-Err-clause-prefix
returns-in-Err-clause-prefix g c = λ tells.
    let old = g.K.Sink.held c.args.sink.now in
    let stays = c.close.ensures.held (c.write_script.ensures.tells tells) in
    subst (λ now. HoldsPart old now (played c.args.text.now)) (sym stays)
    (script_prefix c.args.text.now old (g.K.Sink.held c.write_script.new.sink) (c.write_script.ensures.prefix tells))
