use Rattle.std.proofs.Common.{◌≡◌, length}
use Rattle.curp_ruled.proofs.inboxes.Inboxes.new.Given as goal

-- one for each node so far, and the posts of all senders
abbrev pub invariant-loop-node : goal.invariant-loop-node
invariant-loop-node l = (length l.takes.items ≡ l.node-index) × (length l.posts.items ≡ l.count)
