use Rattle.curp_tail.proofs.tail.note.Goals as goal

pub returns-clause-lasts : goal.returns-clause-lasts
returns-clause-lasts c = λ other. let done = rw c.unwrap.ensures at c.insert-noted.ensures.updates in done.0 other
