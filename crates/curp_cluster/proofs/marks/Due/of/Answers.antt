use Rattle.std.proofs.Common.{◌≡◌, IfOk, subst}
use Rattle.curp_msg.specs.Input.{input_of}
use Rattle.curp_line.specs.Due.{DueMarks}
use Rattle.curp_cluster.specs.Marks.{told_due}
use Rattle.curp_cluster.proofs.Marking.{as_master}
use Rattle.curp_cluster.proofs.marks.Due.of.Goals as goal

pub returns-in-Master-clause-value : goal.returns-in-Master-clause-value
returns-in-Master-clause-value c =
    subst (λ (marks : DueMarks). IfOk c.due_of_master.result (λ due. told_due due ≡ marks))
    (as_master c.args.nodes.now c.args.to (input_of c.args.input) c.in-Master.is) c.due_of_master.ensures.value
