use Rattle.std.proofs.Common.{◌≡◌, ℕ, [], length}
use Rattle.crossbeam_channel.specs.Claims.{view, IsSeatAt}
use Rattle.crossbeam_channel.specs.Ends.{sends_on}
use Rattle.curp_base.specs.Words.{At}
use Rattle.curp_ruled.specs.Rule.{taker}
use Rattle.curp_ruled.specs.Ends.{Posted}
use Rattle.curp_ruled.proofs.opening.seat_all.Given as goal

abbrev pub invariant-loop-number : goal.invariant-loop-number
invariant-loop-number l =
    IsSeatAt (sends_on l.sender) l.pass × (view l.pass ≡ record taker { made = l.number }) × (length l.posts.items ≡ l.number)
    × ((k : ℕ) (post : Posted) → At l.posts.items k post → post ≡ record { inbox = sends_on l.sender; to = l.to; number = k; sent = [] })
