-- Which nodes a cluster begins with.
use Rattle.std.specs.Prelude.{ℕ, ◌≤◌, ◌*◌, ⊤}
use Rattle.curp_cmd.specs.declared.node.NodeId.{NodeId}
use Rattle.curp_cmd.specs.declared.node.NodeKind.{NodeKind}
use Rattle.curp_cmd.specs.declared.node.NodeKind.TheVariants as kind
use Rattle.curp_msg.specs.declared.script.Header.{Header}

-- the node of that kind and number is there before any step
abbrev pub IsThereOf : Header → NodeKind → (number : ℕ) → Type 0
IsThereOf header kind.Manager number = ⊤
IsThereOf header kind.Client number = ⊤
IsThereOf header kind.Master number = number ≤ header.parts
IsThereOf header kind.Backup number = number ≤ header.parts * header.f
IsThereOf header kind.Witness number = number ≤ header.parts * header.f

abbrev pub IsThere : Header → NodeId → Type 0
IsThere header node = IsThereOf header node.kind node.number
