use Rattle.std.proofs.Common.{arith}
use Rattle.curp_range.proofs.Places.{lacks_first, tested_last, tested_first}
use Rattle.curp_range.proofs.spans.covers.Goals as goal

pub returns-then-first-lo : goal.returns-then-first-lo
returns-then-first-lo c =
    let found = c.in-Some.ensures.lookup in
    tested_last _ _ _ _ c.in-Some.field-0.now c.requires.ascend c.ended_before.ensures found.3.0 found.1 c.if-first-lo.true

pub returns-else-first-lo : goal.returns-else-first-lo
returns-else-first-lo c =
    let found = c.in-Some.ensures.lookup in
    tested_first _ _ _ _ c.in-Some.field-0.now c.requires.ascend c.requires.ordered c.ended_before.ensures found.1 c.if-first-lo.false

pub returns-in-None : goal.returns-in-None
returns-in-None c =
    let past = c.in-None.ensures.lookup.3 in
    lacks_first _ _ _ _ (0, 0) c.requires.ascend c.requires.ordered c.ended_before.ensures (λ l. absurd (omega arith))
