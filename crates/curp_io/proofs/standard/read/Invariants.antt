-- An interrupted call moves no byte.
use Rattle.std.specs.Io.KnownBytes.{Keeps}
use Rattle.curp_io.proofs.standard.read.Given as goal

abbrev pub invariant-tries : goal.invariant-tries
invariant-tries g l = Keeps (g.R.Read.remaining l.fn.reader) (g.R.Read.remaining l.reader)
