use Rattle.std.proofs.Common.{◌≡◌}
use Rattle.curp_master_log.specs.MasterLog.{KeptLog, kept_log_of, with_entry}
use Rattle.curp_master_log.proofs.Beside.{beside_push, pushed_log}
use Rattle.curp_master_log.proofs.master_log.MasterLog.push.Goals as goal

abbrev before : goal.After-push → KeptLog
before c = kept_log_of c.self.inside.log c.self.inside.synced c.self.inside.free.numbers

pushed : (c : goal.After-push) → kept_log_of c.push.new.self c.self.inside.synced c.mark.new.free.numbers ≡ with_entry (before c) c.args.entry c.args.is_free
pushed c =
    pushed_log (before c) c.push.new.self c.mark.new.free.numbers c.args.entry c.args.is_free
    c.push.ensures.lo c.push.ensures.hi c.push.ensures.entries (cc (c.mark.ensures.numbers, c.len-index.ensures.value))

pub invariant_of-self : goal.invariant_of-self
invariant_of-self c =
    rw (pushed c) (beside_push (before c) c.self.inside.told c.self.inside.tail.entries c.follow.new.tail.entries c.args.entry c.args.is_free c.self.invariant c.follow.ensures.follows)

pub returns-clause-pushed : goal.returns-clause-pushed
returns-clause-pushed c = rw (← c.self.view_is) (pushed c)
