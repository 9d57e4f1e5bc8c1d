use Rattle.std.proofs.Common.{ap, ◌∙◌, length}
use Rattle.curp_model.specs.Marks.{flagged}
use Rattle.curp_line.specs.Slots.{marks_from}
use Rattle.curp_line.proofs.Between.{all_flagged, flags_stand}
use Rattle.curp_line.proofs.line.Line.completed.Goals as goal

pub invariant_of-self : goal.invariant_of-self
invariant_of-self c = rw c.flag.ensures.slots (flags_stand (length c.self.inside.cuts.cuts) c.args.completed.now c.self.inside.slots.slots c.self.invariant)

pub returns-clause-marks : goal.returns-clause-marks
returns-clause-marks c =
    ap (marks_from 0 c.self.inside.cuts.cuts) c.flag.ensures.slots ∙ all_flagged c.args.completed.now c.self.inside.cuts.cuts c.self.inside.slots.slots
    ∙ ap (λ l. flagged c.args.completed.now l.marks) c.self.view_is
