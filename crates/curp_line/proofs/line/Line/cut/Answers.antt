use Rattle.std.proofs.Common.{◌+◌, ℕ, [], ◌∷◌, ◌++◌, sym, ap, ◌∙◌, length, subst}
use Rattle.std.proofs.lemmas.List.{length_push}
use Rattle.curp_base.specs.Words.{Each}
use Rattle.curp_model.specs.Marks.{adoptions, cut_mark}
use Rattle.curp_line.specs.Content.{Marking}
use Rattle.curp_line.specs.Cuts.{how_many, is_cut_of}
use Rattle.curp_line.specs.declared.cuts.Cut.{Cut}
use Rattle.curp_line.specs.Slots.{StandsWithin, marks_from}
use Rattle.curp_line.proofs.Between.{adoptions_counted, are_of_requests, cut_behind, stand_more}
use Rattle.curp_line.proofs.line.Line.cut.Goals as goal
use Rattle.curp_line.proofs.line.Line.cut.Goals.{After-add}

added : After-add → Cut
added c = record { term = c.args.term; earlier = how_many (is_cut_of c.args.term.part) c.self.inside.cuts.cuts; length = c.args.length }

pub invariant_of-self : goal.invariant_of-self
unfolding added
invariant_of-self c =
    rw c.add.ensures.cuts (subst (λ n. Each (StandsWithin n) c.self.inside.slots.slots) (sym (length_push c.self.inside.cuts.cuts (added c)))
    (stand_more (length c.self.inside.cuts.cuts) c.self.inside.slots.slots c.self.invariant))

pub returns-clause-marks : goal.returns-clause-marks
unfolding added
returns-clause-marks c =
    let cuts = c.self.inside.cuts.cuts in
    let slots = c.self.inside.slots.slots in
    let mark = λ (n : ℕ). cut_mark c.args.term.master c.args.term.part c.args.term.epoch (n + 1) c.args.length in
    ap (λ cs. marks_from 0 cs slots) c.add.ensures.cuts ∙ cut_behind cuts (added c) slots c.self.invariant
    ∙ ap (λ n. marks_from 0 cuts slots ++ mark n ∷ []) (sym (adoptions_counted c.args.term.part cuts slots (are_of_requests (length cuts) slots c.self.invariant)))
    ∙ ap (λ (l : Marking). l.marks ++ mark (adoptions c.args.term.part l.marks) ∷ []) c.self.view_is
