-- What is due to be marked of an input to a node.
use Rattle.std.specs.Prelude.{ℕ}
use Rattle.curp_base.specs.Words.{numbered}
use Rattle.curp_cmd.specs.Node.{master_node}
use Rattle.curp_cmd.specs.declared.node.NodeId.{NodeId}
use Rattle.curp_cmd.specs.declared.node.NodeKind.{NodeKind}
use Rattle.curp_cmd.specs.declared.node.NodeKind.TheVariants as kind
use Rattle.curp_model.specs.Manager.{adoption}
use Rattle.curp_model.specs.World.{is_adopted}
use Rattle.curp_msg.specs.Input.{Input}
use Rattle.curp_line.specs.Due.{Adopts, DueMarks, Nothing, Since, due_if, due_of_adoption, glanced}
use Rattle.curp_cluster.specs.Nodes.{NodeStates}
use Rattle.curp_cluster.specs.declared.marks.Due.{Due}
use Rattle.curp_cluster.specs.declared.marks.Due.TheVariants as due

-- of an input to a master
abbrev pub due_to_master : NodeStates → NodeId → Input → DueMarks
due_to_master nodes to given = due_if (is_adopted nodes.manager to) (glanced given) (numbered nodes.masters to.number)

-- by the kind of the node
abbrev pub due_by_kind : NodeStates → NodeKind → ℕ → Input → DueMarks
due_by_kind nodes kind.Master n given = due_to_master nodes (master_node n) given
due_by_kind nodes kind.Manager n given = due_of_adoption nodes.masters (adoption nodes.manager given)
due_by_kind nodes _ n given = Nothing

-- what is due of an input to a node
abbrev pub due_marks : NodeStates → NodeId → Input → DueMarks
due_marks nodes to given = due_by_kind nodes to.kind to.number given

-- what is told as due
abbrev pub told_due : Due → DueMarks
told_due due.Nothing = Nothing
told_due (due.Since former) = Since former
told_due (due.Adoption a) = Adopts a.term.master a.term.part a.term.epoch a.cut a.replayed.items
