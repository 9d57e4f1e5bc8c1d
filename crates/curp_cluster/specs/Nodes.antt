-- The nodes of a world as they are kept.
use Rattle.std.specs.Prelude.{◌≡◌, ℕ, ◌+◌, List, length}
use Rattle.curp_cmd.specs.declared.node.Keeper.TheVariants as keeper
use Rattle.curp_model.specs.Backup.{BackupState}
use Rattle.curp_model.specs.Client.{ClientState}
use Rattle.curp_model.specs.Manager.{ManagerState, Next}
use Rattle.curp_model.specs.Recovery.{MasterStage}
use Rattle.curp_model.specs.Witness.{WitnessState}
use Rattle.curp_model.specs.World.{World}
use Rattle.curp_msg.specs.Moved.{Node}
use Rattle.curp_msg.specs.Input.{Input}
use Rattle.curp_msg.specs.Input as input
use Rattle.curp_msg.specs.declared.machine.Local.{Local}
use Rattle.curp_msg.specs.declared.machine.Local.TheVariants as local
use Rattle.curp_nodes.specs.Nodes.{HasNumbers, IsAhead}

-- ---- how they are numbered

-- each kind of node is numbered, and the manager names the next number of each kind that it adds to
pub record AreNumbered (next : Next) (clients : List (Node ClientState)) (masters : List (Node MasterStage))
    (backups : List (Node BackupState)) (witnesses ahead : List (Node WitnessState)) (sets ways : ℕ) : Type 0 where
  pub clients_are : HasNumbers clients
  pub masters_are : HasNumbers masters
  pub backups_are : HasNumbers backups
  pub witnesses_are : IsAhead witnesses ahead sets ways
  pub next_master : next.master ≡ length masters + 1
  pub next_backup : next.backup ≡ length backups + 1
  pub next_witness : next.witness ≡ length witnesses + 1

-- ---- fresh nodes

-- so many nodes of each kind
pub record Counts : Type 0 where
  pub masters : ℕ
  pub backups : ℕ
  pub witnesses : ℕ

-- none
abbrev pub no_nodes : Counts
no_nodes = record { masters = 0; backups = 0; witnesses = 0 }

-- so many fresh nodes an order names at most, where a partition has so many backups and as many witnesses
abbrev pub named_by_order : ℕ → Local → Counts
named_by_order keepers (local.Recover part backup witness) = record { masters = 1; backups = keepers; witnesses = keepers }
named_by_order keepers (local.Replace keeper.Backup part place) = record { masters = 0; backups = 1; witnesses = 0 }
named_by_order keepers (local.Replace keeper.Witness part place) = record { masters = 0; backups = 0; witnesses = 1 }
named_by_order keepers _ = no_nodes

-- and an input
abbrev pub most_fresh : ℕ → Input → Counts
most_fresh keepers (input.Message m) = no_nodes
most_fresh keepers (input.Local order) = named_by_order keepers order

-- ---- all nodes

-- the states of all nodes, and the shape of the witnesses that come
pub record NodeStates : Type 0 where
  pub clients : List ClientState
  pub manager : ManagerState
  pub masters : List MasterStage
  pub backups : List BackupState
  pub witnesses : List WitnessState
  pub sets : ℕ
  pub ways : ℕ

-- those of a world
abbrev pub nodes_of : World → NodeStates
nodes_of w = record {
  clients = w.clients;
  manager = w.manager;
  masters = w.masters;
  backups = w.backups;
  witnesses = w.witnesses;
  sets = w.sets;
  ways = w.ways;
}

-- a world with these nodes for its own
abbrev pub with_nodes : World → NodeStates → World
with_nodes w nodes = record w {
  clients = nodes.clients;
  manager = nodes.manager;
  masters = nodes.masters;
  backups = nodes.backups;
  witnesses = nodes.witnesses;
  sets = nodes.sets;
  ways = nodes.ways;
}
