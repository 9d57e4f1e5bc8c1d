use Rattle.std.proofs.Common.{◌≡◌, ◌-◌, ◌∙◌, length, ap, arith}
use Rattle.std.proofs.lemmas.List.{length-drop}
use Rattle.curp_entries.proofs.Parts.{last_dropped, last_none}
use Rattle.curp_entries.proofs.runs.last_of.Goals as goal

pub returns-in-Ok-clause-last : goal.returns-in-Ok-clause-last
returns-in-Ok-clause-last c = last_dropped c.saturating_sub-others.result c.args.entries.now c.in-Ok.last.items (c.in-Ok.ensures ∙ c.past.ensures)

pub returns-in-Ok-clause-few : goal.returns-in-Ok-clause-few
returns-in-Ok-clause-few c =
    let others = c.saturating_sub-others.result in
    let long : length c.in-Ok.last.items ≡ length c.args.entries.now - others =
    ap length (c.in-Ok.ensures ∙ c.past.ensures) ∙ length-drop others c.args.entries.now in
    omega (arith, long, c.saturating_sub-others.ensures)

pub returns-in-Err-clause-last : goal.returns-in-Err-clause-last
returns-in-Err-clause-last c = last_none c.args.entries.now c.new.result.items c.new.ensures.items

pub returns-in-Err-clause-few : goal.returns-in-Err-clause-few
returns-in-Err-clause-few c = omega (arith, ap length c.new.ensures.items)
