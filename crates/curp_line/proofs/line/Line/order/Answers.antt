use Rattle.std.proofs.Common.{◌≡◌, List, map, length, ap, sym, ◌∙◌}
use Rattle.std.proofs.lemmas.Result.{IfOk-weaker}
use Rattle.std.specs.List.{filter}
use Rattle.curp_model.specs.Marks.{shown}
use Rattle.curp_line.specs.Slots.{asked, in_runs, is_shown_slot, shown_of}
use Rattle.curp_line.specs.declared.slot.ShownMark.{ShownMark}
use Rattle.curp_line.proofs.Runs.{shown_in_runs, shown_within}
use Rattle.curp_line.proofs.line.Line.order.Goals as goal

pub returns : goal.returns
returns c =
    let cuts = c.self.inside.cuts.cuts in
    let slots = c.self.inside.slots.slots in
    let items : c.in_ok-shown.shown.items ≡ map shown_of (filter is_shown_slot slots) = c.in_ok-shown.ensures in
    IfOk-weaker c.in_order.result _ _ (λ order told. told (length cuts) (rw items (shown_within (length cuts) slots c.self.invariant))
    ∙ ap (λ (ms : List ShownMark). map asked (in_runs (λ s. s.cuts_before) 0 (length cuts) ms)) items ∙ sym (shown_in_runs cuts slots) ∙ ap (λ l. shown l.marks) c.self.view_is)
    c.in_order.ensures
