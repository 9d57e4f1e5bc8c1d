use Rattle.std.proofs.Common.{◌+◌, ℕ, not, [], ◌∷◌, ◌++◌, ap, ◌∙◌}
use Rattle.std.specs.List.{filter}
use Rattle.curp_model.specs.Marks.{Mark, adoptions, cut_mark, is_dropped, replayed_marks}
use Rattle.curp_line.proofs.Between.{adoptions_left}
use Rattle.curp_line.proofs.line.Line.adopted.Goals as goal

-- no adoption goes, so that the next one's number is what it was
pub returns-clause-marks : goal.returns-clause-marks
returns-clause-marks c =
    let dropped = filter (λ (m : Mark). not (is_dropped c.args.term.part c.args.cut m)) c.args.self.now.marks in
    let mark = λ (n : ℕ). cut_mark c.args.term.master c.args.term.part c.args.term.epoch (n + 1) c.args.cut in
    c.replay.ensures.marks
    ∙ ap (replayed_marks c.args.term.master c.args.term.part c.args.term.epoch c.args.cut c.args.replayed.now)
    (c.cut.ensures.marks ∙ ap (λ ms. ms ++ mark (adoptions c.args.term.part ms) ∷ []) c.drop_past.ensures.marks
    ∙ ap (λ n. dropped ++ mark n ∷ []) (adoptions_left c.args.term.part c.args.cut c.args.self.now.marks))
