use Rattle.std.proofs.Common.{◌∙◌, rules}
use Rattle.curp_runner.proofs.claim.read_claim.Goals as goal

pub lines-preserved : goal.lines-preserved
lines-preserved g c = record {
  counted = search rules;
  behind = search rules;
  source_tells = λ told. c.read_line.ensures.tells (c.lines.invariant.source_tells told);
  source_faults = search rules;
  due = λ told. c.lines.invariant.due told ∙ (rw c.if-branch.true at c.in_ok-read_line.ensures.due (c.lines.invariant.source_tells told));
}
