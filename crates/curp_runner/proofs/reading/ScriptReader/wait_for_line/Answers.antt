use Rattle.std.proofs.Common.{arith}
use Rattle.curp_runner.specs.Reading.{due}
use Rattle.curp_runner.proofs.Scripts.{line_given, nothing_behind, stop_given, stop_passed, stops_long_at}
use Rattle.curp_runner.proofs.reading.ScriptReader.wait_for_line.Goals as goal

pub returns-in_err-line-in-Line-clause-due : goal.returns-in_err-line-in-Line-clause-due
returns-in_err-line-in-Line-clause-due g c =
    let meaning = g.L.ScriptLine.meaning in
    let behind = rw (← c.self.view_is) at c.requires.behind in
    let was = c.in_err-line-in-Line.was in
    rw (← c.self.view_is) (λ tells.
    stop_passed _ (due meaning c.next_line.new.self (g.S.Source.left c.next_line.new.source)) c.in_err-line-in-Line.field-0.0 _
    (stop_given meaning c.self.inside.lines c.args.number _ _ _ _
    behind.numbered (c.in-Line.ensures.bytes tells behind.going_on)
    (λ more. (rw (c.text-text.ensures, was) at c.line_of_text.ensures.stops) more))
    c.from_residual.ensures.0 c.from_residual.ensures.1)

pub returns-in_ok-line-in-Line-clause-due : goal.returns-in_ok-line-in-Line-clause-due
returns-in_ok-line-in-Line-clause-due g c =
    let behind = rw (← c.self.view_is) at c.requires.behind in
    rw (← c.self.view_is) (λ tells.
    line_given g.L.ScriptLine.meaning c.self.inside.lines c.next_line.new.self c.args.number _ _ _ _
    behind.numbered (c.in-Line.ensures.number behind.going_on) c.in_ok-line-in-Line.ensures.counted
    (c.in-Line.ensures.bytes tells behind.going_on)
    (rw c.text-text.ensures at c.in_ok-line-in-Line.ensures.gives))

pub returns-in-End-clause-end : goal.returns-in-End-clause-end
returns-in-End-clause-end g c =
    let behind = rw (← c.self.view_is) at c.requires.behind in
    λ tells none. nothing_behind _ _ (c.in-End.ensures.bytes tells behind.going_on).1

pub returns-in-TooLong-clause-due : goal.returns-in-TooLong-clause-due
returns-in-TooLong-clause-due g c =
    let behind = rw (← c.self.view_is) at c.requires.behind in
    rw (← c.self.view_is) (λ tells.
    stops_long_at g.L.ScriptLine.meaning c.self.inside.lines c.args.number _ _
    c.in-TooLong.at behind.numbered (omega arith) (c.in-TooLong.ensures.bytes tells behind.going_on))
