use Rattle.std.proofs.Common.{refl}
use Rattle.curp_runner.proofs.Scripts.{header_given, long_is_no_header, none_given}
use Rattle.curp_runner.proofs.reading.ScriptReader.read_header.Goals as goal

pub returns-in-Line-clause-opened : goal.returns-in-Line-clause-opened
returns-in-Line-clause-opened g c = λ tells.
    let new = rw (← c.self.view_is) at c.requires in
    let given = c.in-Line.ensures.bytes tells (rw new refl) in
    header_given g.L.ScriptLine.meaning _ _ _ _ _ _ new given (c.in-Line.ensures.number (rw new refl))
    (rw c.text.ensures at c.header_of_line.ensures.ok)

pub returns-in-Line-clause-refused : goal.returns-in-Line-clause-refused
returns-in-Line-clause-refused g c = λ tells.
    let new = rw (← c.self.view_is) at c.requires in
    let given = c.in-Line.ensures.bytes tells (rw new refl) in
    none_given g.L.ScriptLine.meaning _ _ _ _ _ new given (rw c.text.ensures at c.header_of_line.ensures.err)

pub returns-in-TooLong-clause-refused : goal.returns-in-TooLong-clause-refused
returns-in-TooLong-clause-refused g c = λ tells.
    let new = rw (← c.self.view_is) at c.requires in
    let refused = c.in-TooLong.ensures.bytes tells (rw new refl) in
    long_is_no_header g.L.ScriptLine.meaning _ _ c.in-TooLong.at (rw new at refused)
