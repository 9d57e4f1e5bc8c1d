use Rattle.std.proofs.Common.{arith}
use Rattle.curp_runner.proofs.Scripts.{nothing_behind}
use Rattle.curp_runner.proofs.Judging.{end_due, line_due, long_due, stop_due, stop_passed}
use Rattle.curp_runner.specs.Check.{claim_due}
use Rattle.curp_runner.proofs.claim.read_line.Goals as goal

pub returns-in_err-add_line-in-Line-clause-due : goal.returns-in_err-add_line-in-Line-clause-due
returns-in_err-add_line-in-Line-clause-due g c = λ tells.
    stop_passed _ (claim_due c.next_line.new.self c.add_line.new.claim (g.S.Source.left c.next_line.new.source)) _ c.in_err-add_line-in-Line.field-0.0 _
    (stop_due c.args.lines.now c.args.count _ _ _ _ _
    c.requires.behind.numbered (c.in-Line.ensures.bytes tells c.requires.behind.going_on)
    (λ rest. (rw (c.text.ensures, c.in_err-add_line-in-Line.was) at c.add_line.ensures.stops) rest))
    c.from_residual.ensures.0 c.from_residual.ensures.1

pub returns-in_ok-add_line-in-Line-clause-due : goal.returns-in_ok-add_line-in-Line-clause-due
returns-in_ok-add_line-in-Line-clause-due g c = λ tells.
    line_due c.args.lines.now c.next_line.new.self c.args.count _ _ _ _ _
    c.requires.behind.numbered (c.in-Line.ensures.number c.requires.behind.going_on) c.in_ok-add_line-in-Line.ensures.counted
    (c.in-Line.ensures.bytes tells c.requires.behind.going_on) (rw c.text.ensures at c.in_ok-add_line-in-Line.ensures.added)

pub returns-in-End-clause-due : goal.returns-in-End-clause-due
returns-in-End-clause-due g c = λ tells. end_due c.args.lines.now _ c.args.claim.now (c.in-End.ensures.bytes tells c.requires.behind.going_on).0

pub returns-in-End-clause-end : goal.returns-in-End-clause-end
returns-in-End-clause-end g c = λ tells none. nothing_behind _ _ (c.in-End.ensures.bytes tells c.requires.behind.going_on).1

pub returns-in-TooLong-clause-due : goal.returns-in-TooLong-clause-due
returns-in-TooLong-clause-due g c = λ tells.
    long_due c.args.lines.now c.args.count _ _ c.in-TooLong.at c.args.claim.now c.requires.behind.numbered (omega (arith, c.requires.few))
    (c.in-TooLong.ensures.bytes tells c.requires.behind.going_on)
