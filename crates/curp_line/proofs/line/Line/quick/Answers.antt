use Rattle.std.proofs.Common.{◌+◌, sym, ap, ◌∙◌, arith, refl, length}
use Rattle.curp_model.specs.Marks.{adoptions_to, put_at, quick, with_quick}
use Rattle.curp_line.specs.Cuts.{how_many, is_cut_at, is_cut_to}
use Rattle.curp_line.specs.Slots.{marks_from}
use Rattle.curp_line.proofs.Between.{adoptions_counted_to, are_of_requests, late, place_within, stand_push}
use Rattle.curp_line.proofs.line.Line.quick.Goals as goal

pub invariant_of-self : goal.invariant_of-self
invariant_of-self c =
    let within = place_within (is_cut_at c.args.term.part (how_many (is_cut_to c.args.term.part c.args.term.epoch) c.self.inside.cuts.cuts)) c.self.inside.cuts.cuts in
    rw c.push.ensures.slots
    (stand_push (length c.self.inside.cuts.cuts) c.self.inside.slots.slots c.new-mark.result c.place_behind-cuts_before.result c.self.invariant (omega (arith, c.place_behind-cuts_before.ensures, within)) (rw c.new-mark.ensures refl))

pub returns-clause-marks : goal.returns-clause-marks
returns-clause-marks c =
    let cuts = c.self.inside.cuts.cuts in
    let slots = c.self.inside.slots.slots in
    let requests = are_of_requests (length cuts) slots c.self.invariant in
    ap (marks_from 0 cuts) c.push.ensures.slots
    ∙ late c.args.term.part (how_many (is_cut_to c.args.term.part c.args.term.epoch) cuts) cuts slots c.new-mark.result c.place_behind-cuts_before.result requests c.place_behind-cuts_before.ensures
    ∙ ap (λ k. put_at c.args.term.part (k + 1) c.new-mark.result (marks_from 0 cuts slots)) (sym (adoptions_counted_to c.args.term.part c.args.term.epoch cuts slots requests))
    ∙ ap (λ m. put_at c.args.term.part (adoptions_to c.args.term.part c.args.term.epoch (marks_from 0 cuts slots) + 1) m (marks_from 0 cuts slots)) c.new-mark.ensures
    ∙ ap (λ l. with_quick (quick c.args.term.master c.args.term.part c.args.term.epoch c.args.capture c.args.id c.args.command) l.marks) c.self.view_is
