-- The names of nodes (this project's own).
use Rattle.std.specs.Prelude.{ℕ, ◌==◌, ◌&&◌, Bool, true, false, List}
use Rattle.std.specs.List.{list_any}
use Rattle.curp_cmd.specs.declared.node.NodeId.{NodeId}
use Rattle.curp_cmd.specs.declared.node.NodeKind.{NodeKind}
use Rattle.curp_cmd.specs.declared.node.NodeKind.TheVariants.{Manager, Client, Master, Backup, Witness}

-- there is one manager
abbrev pub manager_node : NodeId
manager_node = record { kind = Manager; number = 0 }

-- client n
abbrev pub client_node : ℕ → NodeId
client_node n = record { kind = Client; number = n }

-- master n
abbrev pub master_node : ℕ → NodeId
master_node n = record { kind = Master; number = n }

-- backup n
abbrev pub backup_node : ℕ → NodeId
backup_node n = record { kind = Backup; number = n }

-- witness n
abbrev pub witness_node : ℕ → NodeId
witness_node n = record { kind = Witness; number = n }

-- the same kind of node
abbrev pub same_kind : NodeKind → NodeKind → Bool
same_kind Manager Manager = true
same_kind Client Client = true
same_kind Master Master = true
same_kind Backup Backup = true
same_kind Witness Witness = true
same_kind _ _ = false

-- the same node
abbrev pub same_node : NodeId → NodeId → Bool
same_node a b = same_kind a.kind b.kind && (a.number == b.number)

-- a node is among others
abbrev pub is_among : NodeId → List NodeId → Bool
is_among node nodes = list_any (same_node node) nodes
