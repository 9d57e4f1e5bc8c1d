use Rattle.std.proofs.Common.{◌∙◌, List, ℕ, sym, subst}
use Rattle.curp_io.specs.Streams.{HoldsPart}
use Rattle.curp_session.specs.Answering.{so_far}
use Rattle.curp_session.proofs.Texts.{part_behind, other_due}
use Rattle.curp_session.proofs.session.answer.Goals as goal

pub returns-in-Other-clause-prefix : goal.returns-in-Other-clause-prefix
returns-in-Other-clause-prefix g c = λ k before tells at is.
    let new = g.K.Sink.held c.write_other.new.sink in
    let f = c.args.served.now.f in
    subst (λ (t : List ℕ). HoldsPart before new t)
    (other_due c.args.output f c.args.served.now.every c.args.asked c.in-Other.other k c.in-Other.is (λ e. c.if-count-eq-REQUEST_LIMIT.false (sym at.counted ∙ e)))
    (part_behind before (g.K.Sink.held c.args.sink.now) new (so_far c.args.output f k) _ is (c.write_other.ensures.prefix tells))
