use Rattle.std.proofs.Common.{◌≡◌, length}
use Rattle.std.specs.Vec.Iter.{into_iter_items, into_iter_len}
use Rattle.curp_master_log.proofs.Suspected.{Treats}
use Rattle.curp_master_log.proofs.suspects.treat_each.Given as goal

-- those that are left are treated behind the others, and there is room for them
abbrev pub invariant-loop-suspect : goal.invariant-loop-suspect
invariant-loop-suspect l = record {
  treats : Treats l.fn.master_log l.fn.queue.waiting l.fn.suspects.items l.master_log l.queue (into_iter_items l.suspect-iterator);
  left : into_iter_len l.suspect-iterator ≡ length (into_iter_items l.suspect-iterator);
}
