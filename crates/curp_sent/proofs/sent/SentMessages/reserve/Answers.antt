use Rattle.std.proofs.Common.{◌≡◌, length, arith}
use Rattle.curp_sent.proofs.BatchLaws.{firsts_counted}
use Rattle.curp_sent.proofs.sent.SentMessages.reserve.Goals as goal
use Rattle.curp_sent.proofs.sent.SentMessages.reserve.Goals.{After-reserve-2}

counted : (c : After-reserve-2) → length c.self.inside.firsts.items ≡ length c.self.inside.batches.items
counted c = firsts_counted c.self.inside.firsts.items c.self.inside.batches.items c.self.inside.next c.self.inside.weight c.self.invariant

pub returns-in_err-reserve-2-clause-no_more : goal.returns-in_err-reserve-2-clause-no_more
returns-in_err-reserve-2-clause-no_more c =
    let firsts = counted (goal.at.returns-in_err-reserve-2-clause-no_more c).After-reserve-2 in
    rw (← c.self.view_is) (omega (arith, c.reserve.ensures.no_more, c.reserve-2.ensures.no_more, firsts))

pub returns-then-self-gt-MOST-clause-no_more : goal.returns-then-self-gt-MOST-clause-no_more
returns-then-self-gt-MOST-clause-no_more c =
    let firsts = counted (goal.at.returns-then-self-gt-MOST-clause-no_more c).After-reserve-2 in
    rw (← c.self.view_is) (omega (arith, c.reserve.ensures.no_more, c.reserve-2.ensures.no_more, firsts))

pub returns-clause-no_more : goal.returns-clause-no_more
returns-clause-no_more c =
    let firsts = counted (goal.at.returns-clause-no_more c).After-reserve-2 in
    rw (← c.self.view_is) (omega (arith, c.reserve.ensures.no_more, c.reserve-2.ensures.no_more, firsts))
