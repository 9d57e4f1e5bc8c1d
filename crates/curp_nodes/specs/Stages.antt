-- How far a master is.
use Rattle.std.specs.Prelude.{◌≡◌, ℕ, Option, Some, None, ⊤}
use Rattle.curp_nodes.specs.declared.stage.Stage.{Stage}
use Rattle.curp_nodes.specs.declared.stage.Stage.TheVariants as stage
use Rattle.curp_master.specs.Shells.{Shell}
use Rattle.curp_model.specs.Master.{MasterState}
use Rattle.curp_model.specs.Recovery.{MasterStage, Fresh, Recovering, RecoveryState, Serving, serves}
use Rattle.curp_msg.specs.Moved.{Node}

-- its state as it serves
abbrev pub serving_state : MasterStage → Option MasterState
serving_state (Serving m) = Some m
serving_state _ = None

-- its recovery
abbrev pub recovery_state : MasterStage → Option RecoveryState
recovery_state (Recovering r) = Some r
recovery_state _ = None

-- its number and how far it is, by what is kept
abbrev pub node_of : Stage → Node MasterStage
node_of (stage.Fresh number) = record { number = number; state = Fresh }
node_of (stage.Recovering r) = record { number = r.number; state = Recovering r.state }
node_of (stage.Serving m) = record { number = m.number; state = Serving m.state }

-- the master that a recovery ends in, without its log
abbrev pub shell_for : Node RecoveryState → Shell
shell_for r = record {
  number = r.number;
  part = r.state.order.part;
  epoch = r.state.order.epoch;
  version = r.state.order.version;
  backups = r.state.order.backups;
  witnesses = r.state.order.witnesses;
}

-- a recovery that is adopted, as a master
abbrev pub adopted : Node RecoveryState → Node MasterStage
adopted r = record { number = r.number; state = serves r.state r.state.phase }

-- it is the shell of the recovery of master n
abbrev pub IsShellIn : ℕ → MasterStage → Shell → Type 0
IsShellIn n (Recovering r) shell = shell ≡ shell_for (record { number = n; state = r })
IsShellIn n _ shell = ⊤

-- its recovery is adopted
abbrev pub served_in : MasterStage → MasterStage
served_in (Recovering r) = serves r r.phase
served_in stage = stage

abbrev pub served : Node MasterStage → Node MasterStage
served m = record m { state = served_in m.state }
