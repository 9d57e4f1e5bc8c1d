use Rattle.std.proofs.Common.{not, ap, ◌∙◌, length}
use Rattle.std.specs.List.{filter}
use Rattle.curp_model.specs.Marks.{Mark, is_dropped}
use Rattle.curp_line.specs.Slots.{marks_from}
use Rattle.curp_line.proofs.Between.{all_dropped, drops_stand}
use Rattle.curp_line.proofs.line.Line.drop_past.Goals as goal

pub invariant_of-self : goal.invariant_of-self
invariant_of-self c = rw c.drop_past.ensures.slots (drops_stand (length c.self.inside.cuts.cuts) c.args.part c.args.cut c.self.inside.slots.slots c.self.invariant)

pub returns-clause-marks : goal.returns-clause-marks
returns-clause-marks c =
    ap (marks_from 0 c.self.inside.cuts.cuts) c.drop_past.ensures.slots ∙ all_dropped c.args.part c.args.cut c.self.inside.cuts.cuts c.self.inside.slots.slots
    ∙ ap (λ l. filter (λ (m : Mark). not (is_dropped c.args.part c.args.cut m)) l.marks) c.self.view_is
