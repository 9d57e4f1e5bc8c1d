use Rattle.std.proofs.Common.{arith}
use Rattle.curp_range.proofs.Places.{not_met, tested_met}
use Rattle.curp_range.proofs.spans.meets.Goals as goal

pub returns-in-Some : goal.returns-in-Some
returns-in-Some c =
    let found = c.in-Some.ensures.lookup in
    tested_met _ _ _ _ c.in-Some.field-0.now c.requires.ascend c.requires.ordered c.ended_before.ensures found.3.0 found.1

pub returns-in-None : goal.returns-in-None
returns-in-None c =
    let past = c.in-None.ensures.lookup.3 in
    (λ t. absurd cc, λ m. absurd (not_met _ _ _ _ (0, 0) c.requires.ascend c.ended_before.ensures (λ l. absurd (omega arith)) m))
