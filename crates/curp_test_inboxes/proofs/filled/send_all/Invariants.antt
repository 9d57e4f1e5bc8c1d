use Rattle.std.proofs.Common.{◌≡◌}
use Rattle.curp_test_inboxes.specs.Ends.{IsSamePost}
use Rattle.curp_test_inboxes.proofs.filled.send_all.Given as goal

abbrev pub invariant-loop-stamp : goal.invariant-loop-stamp
invariant-loop-stamp g l = IsSamePost l.fn.post l.post × (l.post.number ≡ l.number)
