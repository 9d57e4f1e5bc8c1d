use Rattle.std.proofs.Common.{drop}
use Rattle.curp_master_log.proofs.Suspected.{Scans}
use Rattle.curp_master_log.proofs.suspects.news.Given as goal

-- the Ops so far and those that are left are all
abbrev pub invariant-loop-suspect : goal.invariant-loop-suspect
invariant-loop-suspect l = Scans l.log.lo l.log.hi l.log.entries l.suspects l.seen.table l.ops.items (drop l.suspect-index l.suspects)
