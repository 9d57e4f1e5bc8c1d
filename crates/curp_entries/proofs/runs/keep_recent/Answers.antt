use Rattle.std.proofs.Common.{◌++◌, ◌∙◌, drop, length, ap, arith}
use Rattle.std.proofs.lemmas.List.{length-drop}
use Rattle.curp_entries.proofs.Parts.{last_dropped, last_none, last_of_more}
use Rattle.curp_entries.proofs.runs.keep_recent.Goals as goal

pub returns-then-packed-ge-RECENT-clause-last : goal.returns-then-packed-ge-RECENT-clause-last
returns-then-packed-ge-RECENT-clause-last c = last_of_more c.last_of.result.items c.args.recent.now.items c.args.packed.now c.last_of.ensures.last

pub returns-then-packed-ge-RECENT-clause-few : goal.returns-then-packed-ge-RECENT-clause-few
returns-then-packed-ge-RECENT-clause-few c = c.last_of.ensures.few

pub returns-in-Ok-clause-last : goal.returns-in-Ok-clause-last
returns-in-Ok-clause-last c =
    let others = c.saturating_sub-others.result in
    last_dropped others (c.args.recent.now.items ++ c.args.packed.now) c.leave.new.tail.items (c.leave.ensures.items ∙ ap (drop others) c.in-Ok.ensures.ok)

pub returns-in-Ok-clause-few : goal.returns-in-Ok-clause-few
returns-in-Ok-clause-few c =
    let others = c.saturating_sub-others.result in
    let long = ap length c.leave.ensures.items ∙ length-drop others _ in
    omega (arith, long, c.saturating_sub-others.ensures, c.len.ensures)

pub returns-in-Err-clause-last : goal.returns-in-Err-clause-last
returns-in-Err-clause-last c = last_none (c.args.recent.now.items ++ c.args.packed.now) c.new.result.items c.new.ensures.items

pub returns-in-Err-clause-few : goal.returns-in-Err-clause-few
returns-in-Err-clause-few c = omega (arith, ap length c.new.ensures.items)
