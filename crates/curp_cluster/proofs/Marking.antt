-- What is marked of an input, by what was due before.
use Rattle.std.proofs.Common.{◌≡◌, ℕ, zero, suc, ◌-◌, ◌≤◌, ◌||◌, Bool, is_some, List, slice_set, Option, Some, None, arith, refl, ap, sym, ◌∙◌, subst}
use Rattle.curp_base.specs.Words.{numbered}
use Rattle.curp_base.proofs.Lists.{at_set_same}
use Rattle.curp_cmd.specs.Node.{master_node}
use Rattle.curp_cmd.specs.declared.node.NodeId.{NodeId}
use Rattle.curp_cmd.specs.declared.node.NodeKind.{NodeKind}
use Rattle.curp_cmd.specs.declared.node.NodeKind.TheVariants as kind
use Rattle.curp_model.specs.Backup.{BackupState, backup_input}
use Rattle.curp_model.specs.Client.{ClientState, client_input}
use Rattle.curp_model.specs.Manager.{adoption}
use Rattle.curp_model.specs.Marks.{Mark}
use Rattle.curp_model.specs.Recovery.{MasterStage, master_input}
use Rattle.curp_model.specs.Witness.{WitnessState, witness_input}
use Rattle.curp_model.specs.World.{World, is_adopted, moves_kind, moves_one, with_backup, with_client, with_master, with_witness}
use Rattle.curp_msg.specs.Moved.{within}
use Rattle.curp_msg.specs.Input.{Input}
use Rattle.curp_line.specs.Due.{HasRoomFor, IsFewOf, IsSound, due_if, glanced, marks_by, master_at, most_due, most_marks}
use Rattle.curp_line.proofs.Since.{adopted_marks, if_due, left_since, manager_room, master_room}
use Rattle.curp_cluster.specs.Marks.{due_by_kind, due_marks, due_to_master}
use Rattle.curp_cluster.specs.Nodes.{NodeStates, nodes_of, with_nodes}

-- ---- the marks after a move

-- the nodes have moved, and what was due is marked
abbrev MovedAs : World → NodeId → Input → World → Type 0
MovedAs w to given v = v ≡ record (with_nodes w (nodes_of v)) { marks = marks_by (due_marks (nodes_of w) to given) to v.masters w.marks }

-- what was put under a number has it
set_there : {A : Type 0} (xs : List A) (n : ℕ) (x y : A) → numbered xs n ≡ Some x → numbered (slice_set xs (n - 1) y) n ≡ Some y
set_there xs zero x y here = absurd cc
set_there xs (suc k) x y here = let place : suc k - 1 ≡ k = omega arith in rw place (at_set_same xs k x y here)

-- ---- any node

module _ (w : World) (n : ℕ) (given : Input) where
  client_moved : (o : Option ClientState) → MovedAs w (record { kind = kind.Client; number = n }) given (moves_one w (λ c. within (with_client w n) (client_input n c given)) o).state
  client_moved None = refl
  client_moved (Some c) = refl

  backup_moved : (o : Option BackupState) → MovedAs w (record { kind = kind.Backup; number = n }) given (moves_one w (λ b. within (with_backup w n) (backup_input n b given)) o).state
  backup_moved None = refl
  backup_moved (Some b) = refl

  witness_moved : (o : Option WitnessState) → MovedAs w (record { kind = kind.Witness; number = n }) given (moves_one w (λ x. within (with_witness w n) (witness_input n x given)) o).state
  witness_moved None = refl
  witness_moved (Some x) = refl

  master_moved : (o : Option MasterStage) → numbered w.masters n ≡ o
      → let v : World = (moves_one w (λ s. within (with_master w n given s) (master_input n s given)) o).state in
      v ≡ record (with_nodes w (nodes_of v)) {
        marks = marks_by (due_if (is_adopted w.manager (master_node n)) (glanced given) o) (master_node n) v.masters w.marks;
      }
  master_moved None is =
      ap (λ (marks : List Mark). record w { marks = marks })
      (if_due (master_node n) (is_adopted w.manager (master_node n)) (glanced given) w.masters w.marks None)
  master_moved (Some s) is =
      let after : MasterStage = (master_input n s given).state in
      let v : World = with_master w n given s after in
      let adopted : Bool = is_adopted w.manager (master_node n) in
      ap (λ (marks : List Mark). record v { marks = marks })
      (left_since (master_node n) adopted v.masters w.marks given s after (set_there w.masters n s after is)
      ∙ if_due (master_node n) adopted (glanced given) v.masters w.marks (Some s))

  -- what an input to a node leaves, whatever it is
  pub moved_as : (k : NodeKind) → MovedAs w (record { kind = k; number = n }) given (moves_kind w k n given).state
  moved_as kind.Client = client_moved (numbered w.clients n)
  moved_as kind.Backup = backup_moved (numbered w.backups n)
  moved_as kind.Witness = witness_moved (numbered w.witnesses n)
  moved_as kind.Master = master_moved (numbered w.masters n) refl
  moved_as kind.Manager =
      let to : NodeId = record { kind = kind.Manager; number = n } in
      let v : World = (moves_kind w kind.Manager n given).state in
      ap (λ (marks : List Mark). record v { marks = marks }) (adopted_marks w.masters to v.masters w.marks (adoption w.manager given))

-- what is due of the node of that name, where it is a master
pub as_master : (nodes : NodeStates) (to : NodeId) (given : Input) → to.kind ≡ kind.Master
    → due_to_master nodes to given ≡ due_marks nodes to given
as_master nodes to given is =
    subst (λ (k : NodeKind). due_to_master nodes (record { kind = k; number = to.number }) given ≡ due_by_kind nodes k to.number given)
    (sym is) refl

-- ---- room

-- what was due has room after the move, if so many marks have
pub has_room : (nodes : NodeStates) (after : List MasterStage) (k : NodeKind) (n : ℕ) (given : Input) (spare : ℕ)
    → IsFewOf (master_at k n nodes.masters) (master_at k n after) (most_marks given)
    → IsSound (due_marks nodes (record { kind = k; number = n }) given) (master_at k n nodes.masters)
    → most_due (due_marks nodes (record { kind = k; number = n }) given) (most_marks given) ≤ spare
    → HasRoomFor (due_marks nodes (record { kind = k; number = n }) given) (numbered after n) spare
has_room nodes after kind.Client n given spare few sound room = tt
has_room nodes after kind.Backup n given spare few sound room = tt
has_room nodes after kind.Witness n given spare few sound room = tt
has_room nodes after kind.Master n given spare few sound room =
    master_room (is_adopted nodes.manager (master_node n) || is_some (glanced given)) (is_adopted nodes.manager (master_node n))
    (glanced given) (numbered nodes.masters n) (numbered after n) (most_marks given) spare few sound room
has_room nodes after kind.Manager n given spare few sound room =
    manager_room nodes.masters (adoption nodes.manager given) (numbered after n) (most_marks given) spare sound room
