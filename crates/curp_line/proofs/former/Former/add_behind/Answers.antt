use Rattle.std.proofs.Common.{◌≡◌, ◌++◌, ◌∷◌, [], List, length, append-nil, append_assoc, arith, ap, sym, ◌∙◌, drop, map}
use Rattle.std.proofs.lemmas.List.{length-drop}
use Rattle.curp_cmd.specs.declared.entry.Entry.{Entry}
use Rattle.curp_model.specs.Marks.{Mark}
use Rattle.curp_model.specs.Master.{Captured}
use Rattle.curp_model.specs.World.{capture_mark, op_marks}
use Rattle.curp_line.specs.Due.{is_captured_behind}
use Rattle.curp_line.proofs.Captured.{answered_more, began_none, last_is_new, none_captured, not_both, one_captured}
use Rattle.curp_line.proofs.former.Former.add_behind.Goals as goal

-- the last read is the new one
pub returns-then-is_captured_behind-clause-marks : goal.returns-then-is_captured_behind-clause-marks
returns-then-is_captured_behind-clause-marks c =
    let node = c.args.node in
    let f = c.args.self.now in
    let m = c.args.master.now.state in
    let old = c.args.marks.now.marks in
    let entries = ap (λ (es : List Entry). drop f.length es) c.log-log.ensures.entries in
    let ops : c.add_ops.new.marks.marks ≡ old ++ op_marks node m.part m.epoch f.length (drop f.length m.log) =
    c.add_ops.ensures.marks ∙ (λ i. old ++ op_marks (c.term_of.ensures i).master (c.term_of.ensures i).part (c.term_of.ensures i).epoch f.length (entries i)) in
    let last = ap (is_captured_behind f.captured) (sym c.last_capture.ensures) ∙ sym c.is_captured_behind.ensures ∙ c.if-is_captured_behind.true in
    let new = (one_captured f c.args.marks.now.spare m c.requires.room c.captured-captured.ensures.numbered last).2 in
    let looked : Mark = capture_mark node m.part m.epoch new.1 in
    c.add_capture.ensures new.0 new.1 new.2
    ∙ ap (λ (ms : List Mark). ms ++ looked ∷ []) ops
    ∙ append_assoc old (op_marks node m.part m.epoch f.length (drop f.length m.log)) (looked ∷ [])
    ∙ ap (λ (cs : List Captured). old ++ (op_marks node m.part m.epoch f.length (drop f.length m.log) ++ map (capture_mark node m.part m.epoch) cs))
    (sym (last_is_new f.captured m new))

-- and a round began for it
pub returns-then-is_captured_behind-clause-spare : goal.returns-then-is_captured_behind-clause-spare
returns-then-is_captured_behind-clause-spare c = λ answers.
    let f = c.args.self.now in
    let m = c.args.master.now.state in
    let last = ap (is_captured_behind f.captured) (sym c.last_capture.ensures) ∙ sym c.is_captured_behind.ensures ∙ c.if-is_captured_behind.true in
    let new = one_captured f c.args.marks.now.spare m c.requires.room c.captured-captured.ensures.numbered last in
    not_both (sym (began_none f m new.1) ∙ answers)

-- no read is new
pub returns-else-is_captured_behind-clause-marks : goal.returns-else-is_captured_behind-clause-marks
returns-else-is_captured_behind-clause-marks c =
    let node = c.args.node in
    let f = c.args.self.now in
    let m = c.args.master.now.state in
    let old = c.args.marks.now.marks in
    let entries = ap (λ (es : List Entry). drop f.length es) c.log-log.ensures.entries in
    let pushed : List Mark = op_marks node m.part m.epoch f.length (drop f.length m.log) in
    let last = ap (is_captured_behind f.captured) (sym c.last_capture.ensures) ∙ sym c.is_captured_behind.ensures ∙ c.if-is_captured_behind.false in
    let none = none_captured f c.args.marks.now.spare m c.requires.room c.captured-captured.ensures.numbered last in
    c.add_ops.ensures.marks
    ∙ (λ i. old ++ op_marks (c.term_of.ensures i).master (c.term_of.ensures i).part (c.term_of.ensures i).epoch f.length (entries i))
    ∙ ap (λ (ms : List Mark). old ++ ms) (sym (append-nil pushed))
    ∙ ap (λ (cs : List Captured). old ++ (pushed ++ map (capture_mark node m.part m.epoch) cs)) (sym none)

-- the number that it took has room
pub returns-else-is_captured_behind-clause-spare : goal.returns-else-is_captured_behind-clause-spare
returns-else-is_captured_behind-clause-spare c = λ answers.
    let f = c.args.self.now in
    let m = c.args.master.now.state in
    let entries = ap (λ (es : List Entry). drop f.length es) c.log-log.ensures.entries in
    omega (
      arith,
      c.add_ops.ensures.spare,
      ap (λ (es : List Entry). length es) entries,
      length-drop f.length m.log,
      c.requires.room.room,
      answered_more f m answers,
    )
