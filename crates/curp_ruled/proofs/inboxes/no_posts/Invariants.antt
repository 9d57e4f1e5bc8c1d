use Rattle.std.proofs.Common.{◌≡◌, length}
use Rattle.curp_ruled.proofs.inboxes.no_posts.Given as goal

-- one for each so far
abbrev pub invariant-loop-sender : goal.invariant-loop-sender
invariant-loop-sender l = length l.posts.items ≡ l.sender
