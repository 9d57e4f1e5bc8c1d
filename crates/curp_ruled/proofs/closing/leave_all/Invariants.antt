use Rattle.std.proofs.Common.{◌≡◌, map}
use Rattle.crossbeam_channel.specs.Claims.{view, IsSeatAt}
use Rattle.crossbeam_channel.specs.Ends.{sends_on}
use Rattle.curp_ruled.specs.Ends.{Posted}
use Rattle.curp_ruled.proofs.closing.leave_all.Given as goal

abbrev pub invariant-loop-post : goal.invariant-loop-post
invariant-loop-post l = IsSeatAt (sends_on l.sender) l.pass × (view l.pass ≡ record (view l.fn.pass) { left = map (λ (post : Posted). post.sent) l.yielded })
