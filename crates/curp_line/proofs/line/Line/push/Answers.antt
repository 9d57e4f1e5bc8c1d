use Rattle.std.proofs.Common.{[], ◌∷◌, ◌++◌, ap, ◌∙◌, arith, length}
use Rattle.curp_line.specs.Slots.{marks_from}
use Rattle.curp_line.proofs.Between.{in_turn, stand_push}
use Rattle.curp_line.proofs.line.Line.push.Goals as goal

pub invariant_of-self : goal.invariant_of-self
invariant_of-self c =
    rw c.push.ensures.slots (stand_push (length c.self.inside.cuts.cuts) c.self.inside.slots.slots c.args.mark c.len-cuts_before.result c.self.invariant (omega (arith, c.len-cuts_before.ensures)) c.requires.of_request)

pub returns-clause-marks : goal.returns-clause-marks
returns-clause-marks c =
    ap (marks_from 0 c.self.inside.cuts.cuts) c.push.ensures.slots
    ∙ in_turn c.self.inside.cuts.cuts c.self.inside.slots.slots c.args.mark c.len-cuts_before.result c.len-cuts_before.ensures
    ∙ ap (λ l. l.marks ++ c.args.mark ∷ []) c.self.view_is
