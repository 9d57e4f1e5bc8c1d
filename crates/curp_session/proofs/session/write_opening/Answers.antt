use Rattle.std.proofs.Common.{List, ℕ, subst}
use Rattle.curp_io.specs.Streaming.{wrote_of}
use Rattle.curp_runner.specs.Writing.{PutsText}
use Rattle.curp_session.proofs.Texts.{opening_text}
use Rattle.curp_session.proofs.session.write_opening.Goals as goal

pub returns-in_ok-print_header-in-Script : goal.returns-in_ok-print_header-in-Script
returns-in_ok-print_header-in-Script g c =
    let wrote = wrote_of g.K.Sink.tells g.K.Sink.held g.K.Sink.flushed g.K.Sink.faults c.args.sink.now c.write_line.new.sink in
    subst (λ (t : List ℕ). PutsText t wrote c.write_line.result)
    (opening_text c.args.output c.args.served.now.f c.header.result.now _ c.in-Script.is c.header.ensures c.in_ok-print_header-in-Script.ensures.text)
    c.write_line.ensures
