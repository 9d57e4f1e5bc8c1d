use Rattle.std.proofs.Common.{arith, sym}
use Rattle.std.proofs.lemmas.List.{length-take-le}
use Rattle.curp_entries.proofs.runs.next_run.Goals as goal

pub slice_bounds-oldest-end : goal.slice_bounds-oldest-end
slice_bounds-oldest-end c = sym (length-take-le 64 c.args.tail.now (omega (arith, c.if-tail.false)))

pub returns-then-are_encoded-clause-length : goal.returns-then-are_encoded-clause-length
returns-then-are_encoded-clause-length c = length-take-le 64 c.args.tail.now (omega (arith, c.if-tail.false))
