-- The nodes that are stopped, by their kinds and numbers.
use Rattle.std.specs.Prelude.{◌≡◌, ℕ, nat_eq, List}
use Rattle.std.specs.List.{list_any}
use Rattle.curp_cmd.specs.Node.{same_node}
use Rattle.curp_cmd.specs.declared.node.NodeId.{NodeId}
use Rattle.curp_cmd.specs.declared.node.NodeKind.{NodeKind}
use Rattle.curp_cmd.specs.declared.node.NodeKind.TheVariants as kind

-- the numbers of nodes of each kind
pub record StoppedNumbers : Type 0 where
  pub managers : List ℕ
  pub clients : List ℕ
  pub masters : List ℕ
  pub backups : List ℕ
  pub witnesses : List ℕ

-- those of one kind
abbrev pub numbers_of : StoppedNumbers → NodeKind → List ℕ
numbers_of n kind.Manager = n.managers
numbers_of n kind.Client = n.clients
numbers_of n kind.Master = n.masters
numbers_of n kind.Backup = n.backups
numbers_of n kind.Witness = n.witnesses

-- a node is among these exactly where its number is one of its kind
abbrev pub AreNumbersOf : List NodeId → StoppedNumbers → Type 0
AreNumbersOf nodes n = (node : NodeId) → list_any (same_node node) nodes ≡ list_any (nat_eq node.number) (numbers_of n node.kind)
