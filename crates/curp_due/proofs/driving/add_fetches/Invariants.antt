use Rattle.std.proofs.Common.{◌≡◌, ◌++◌, map}
use Rattle.curp_base.specs.Words.{numbers_from}
use Rattle.curp_due.specs.Driving.{fetch_by}
use Rattle.curp_due.proofs.driving.add_fetches.Given as goal

-- so many clients are told
abbrev pub invariant-loop-before : goal.invariant-loop-before
invariant-loop-before l = l.deeds.items ≡ l.fn.deeds.items ++ map fetch_by (numbers_from 1 l.before)
