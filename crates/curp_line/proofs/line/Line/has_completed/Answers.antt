use Rattle.std.proofs.Common.{ap, sym, ◌∙◌}
use Rattle.curp_model.specs.Marks.{has_completed}
use Rattle.curp_line.proofs.Between.{completed_by_slots}
use Rattle.curp_line.proofs.line.Line.has_completed.Goals as goal

pub returns : goal.returns
returns c =
    c.has_completed.ensures ∙ sym (completed_by_slots c.args.id.now c.self.inside.cuts.cuts c.self.inside.slots.slots c.self.invariant) ∙ ap (λ l. has_completed l.marks c.args.id.now) c.self.view_is
