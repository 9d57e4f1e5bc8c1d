use Rattle.curp_runner.proofs.reading.ScriptReader.read_line.Goals as goal

pub returns-in-Some-clause-line : goal.returns-in-Some-clause-line
returns-in-Some-clause-line g c = λ told. rw c.in-Some.is at c.in_ok-line.ensures.line (g.S.Source.left c.args.source.now)
