use Rattle.curp_runner.specs.Reading.{due}
use Rattle.curp_runner.proofs.Scripts.{line_given, stop_given, stop_passed}
use Rattle.curp_runner.proofs.reading.ScriptReader.ready_line.Goals as goal

pub returns-in_err-line-clause-due : goal.returns-in_err-line-clause-due
returns-in_err-line-clause-due g c =
    let meaning = g.L.ScriptLine.meaning in
    let behind = rw (← c.self.view_is) at c.requires.behind in
    rw (← c.self.view_is) (λ left some.
    stop_passed _ (due meaning c.ready_line.new.self left) c.in_err-line.field-0.0 _
    (stop_given meaning c.self.inside.lines c.args.number _ _ _ _
    behind.numbered (c.ready_line.ensures.line left c.if-not-ready_line.false)
    (λ more. (rw (c.text.ensures, c.in_err-line.was) at c.line_of_text.ensures.stops) more))
    c.from_residual.ensures.0 c.from_residual.ensures.1)

pub returns-clause-due : goal.returns-clause-due
returns-clause-due g c =
    let behind = rw (← c.self.view_is) at c.requires.behind in
    rw (← c.self.view_is) (λ left some.
    line_given g.L.ScriptLine.meaning c.self.inside.lines c.ready_line.new.self c.args.number _ _ _ _
    behind.numbered (c.ready_line.ensures.number c.if-not-ready_line.false) c.in_ok-line.ensures.counted
    (c.ready_line.ensures.line left c.if-not-ready_line.false)
    (rw c.text.ensures at c.in_ok-line.ensures.gives))
