use Rattle.std.proofs.Common.{◌∙◌, ◌&&◌, nat_le}
use Rattle.curp_rounds.proofs.Acks.{within_least}
use Rattle.curp_rounds.proofs.reach.least_reach.Goals as goal

pub returns-in-Some : goal.returns-in-Some
returns-in-Some c = λ long round. rw c.in-Some.is
    ((λ i. nat_le long (c.min.ensures i) && nat_le round (c.min-in-Some.ensures i))
    ∙ within_least c.in-Some.reach.long c.args.other.long c.in-Some.reach.round c.args.other.round long round)
