use Rattle.std.proofs.Common.{length, drop, arith, ap, ◌∙◌, List}
use Rattle.std.proofs.lemmas.List.{length-drop}
use Rattle.curp_cmd.specs.declared.command.Request.{Request}
use Rattle.curp_cmd.specs.declared.entry.Entry.{Entry}
use Rattle.curp_model.specs.World.{op_requests}
use Rattle.curp_line.proofs.OpMarks.{few_requests}
use Rattle.curp_cluster.proofs.marks.due_of_adoption.Goals as goal

-- the log has room for what was replayed behind the cut
pub returns-clause-sound : goal.returns-clause-sound
returns-clause-sound c =
    let log = c.in-Some-Some.log.now.entries in
    let cut = c.in-Some-Some.cut in
    omega (
      arith,
      ap (λ (rs : List Request). length rs) c.in_ok-op_requests.ensures,
      ap (λ (es : List Entry). length (op_requests es)) (c.deref.ensures.value ∙ c.in_ok-suffix.ensures.value),
      few_requests (drop cut log),
      length-drop cut log,
      c.len-length.ensures.small,
    )
