use Rattle.std.proofs.Common.{◌+◌, ◌<◌, ◌++◌, ◌∷◌, [], List, length, drop, arith, ap, sym, ◌∙◌, append_assoc}
use Rattle.std.proofs.lemmas.List.{length-drop}
use Rattle.curp_cmd.specs.declared.command.Command.{Command}
use Rattle.curp_cmd.specs.declared.command.RequestId.{RequestId}
use Rattle.curp_model.specs.Marks.{Mark}
use Rattle.curp_model.specs.Marks as mark
use Rattle.curp_model.specs.World.{op_marks}
use Rattle.curp_line.proofs.OpMarks.{op_marked, op_unmarked}
use Rattle.curp_line.proofs.ops.add_ops.Goals as goal
use Rattle.curp_line.proofs.ops.add_ops.Goals.{in-Some, in_default}

-- an Op is marked, and what else stands there isn't
pub loop-at-preserved : goal.loop-at-preserved
loop-at-preserved c =
    let at = c.loop-at.at in
    let log = c.args.log.now.entries in
    let t = c.args.term in
    let old = c.loop-at.marks.marks in
    let rest : List Mark = op_marks t.master t.part t.epoch (at + 1) (drop (at + 1) log) in
    let within : at < length log = omega (arith, c.loop-at-test.true, c.len-at-end.ensures.value) in
    elim c.match-op_at.branch [
      | in-Some w ↦
          let op : RequestId × Command = (w.in-Some.id, w.in-Some.command) in
          let new : Mark = mark.executed t.master t.part t.epoch at op.0 op.1 in
          rw w.marks-is (record {
            marks = ap (λ (ms : List Mark). ms ++ rest) w.executed.ensures.marks
                ∙ append_assoc old (new ∷ []) rest
                ∙ ap (λ (ms : List Mark). old ++ ms) (sym (op_marked t.master t.part t.epoch at log op (sym c.op_at.ensures.op ∙ w.in-Some.is)))
                ∙ c.loop-at.invariant.marks;
            room = omega (arith, within, length-drop at log, length-drop (at + 1) log, w.executed.ensures.spare, c.loop-at.invariant.room);
            ready = omega (arith, within, length-drop at log, length-drop (at + 1) log, c.op_at.ensures.ready, c.loop-at.invariant.ready);
            spare = omega (arith, within, length-drop at log, length-drop (at + 1) log, w.executed.ensures.spare, c.loop-at.invariant.spare);
            used = omega (arith, within, length-drop at log, length-drop (at + 1) log, c.op_at.ensures.ready, c.loop-at.invariant.used);
          })
      | in_default w ↦
          rw w.marks-is (record {
            marks = ap (λ (ms : List Mark). old ++ ms) (sym (op_unmarked t.master t.part t.epoch at log within (sym c.op_at.ensures.op ∙ w.in_default.is)))
                ∙ c.loop-at.invariant.marks;
            room = omega (arith, length-drop at log, length-drop (at + 1) log, c.loop-at.invariant.room);
            ready = omega (arith, within, length-drop at log, length-drop (at + 1) log, c.op_at.ensures.ready, c.loop-at.invariant.ready);
            spare = omega (arith, length-drop at log, length-drop (at + 1) log, c.loop-at.invariant.spare);
            used = omega (arith, within, length-drop at log, length-drop (at + 1) log, c.op_at.ensures.ready, c.loop-at.invariant.used);
          })
    ]
