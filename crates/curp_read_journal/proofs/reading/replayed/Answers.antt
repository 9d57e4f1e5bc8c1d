use Rattle.curp_read_journal.proofs.Following.{turn}
use Rattle.curp_read_journal.proofs.reading.replayed.Goals as goal

pub loop-arrived-preserved : goal.loop-arrived-preserved
loop-arrived-preserved g c =
    let l = c.loop-arrived in
    turn g.N.Core.machine c.args.node c.args.id l.yielded c.in-Some.arrived l.kept c.step.new.self c.in_ok-step.field-0 l.invariant
    c.in_ok-step.ensures.full c.in_ok-step.ensures.answer c.in_ok-step.ensures.added c.in_ok-step.ensures.refused
