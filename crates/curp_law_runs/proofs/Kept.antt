-- Each step keeps the routes of migrations, and which gives stand before a take.
use Rattle.std.proofs.Common.{◌≡◌}
use Rattle.curp_base.specs.Words.{Each}
use Rattle.curp_cmd.specs.Node.{manager_node}
use Rattle.curp_msg.specs.Input.{Input}
use Rattle.curp_msg.specs.Input as input
use Rattle.curp_msg.specs.declared.message.Message.{Message}
use Rattle.curp_msg.specs.declared.script.Step.{Step}
use Rattle.curp_model.specs.Manager.{manager_input}
use Rattle.curp_model.specs.World.{World, step}
use Rattle.curp_law_kept.specs.Deeds.{IsFor}
use Rattle.curp_facts.specs.Known.{Known}
use Rattle.curp_law_kept.proofs.Gives.{fits, Arrives, manager_good, Both, step_goes, moved_messages, Follows}
use Rattle.curp_facts.specs.Names.{Names}
use Rattle.curp_facts.specs.Before.{GivesBefore, Routed}
use Rattle.curp_facts.specs.Migrated.{Migrated}
use Rattle.curp_facts.specs.Routes.{Routes}
use Rattle.curp_law_runs.specs.Steps.{ByManager, ByOther, ManagerMoves}
use Rattle.curp_law_runs.proofs.Before.{manager_keeps_before, others_keep_before}
use Rattle.curp_law_runs.proofs.Migrated.{migrated}
use Rattle.curp_law_runs.proofs.Moves.{step_moves}
use Rattle.curp_law_runs.proofs.Routes.{others_keep_routes}
use Rattle.curp_law_runs.proofs.Steps.{manager_step_routes}

module _ {w : World} (known : Known w) where
  both : Both w
  both = record { names = known.names; nodes = known.nodes }

  routes_moved : Routes w → (v : World) → ManagerMoves w v → Follows w v → Names v → Routes v
  routes_moved routes _ (ByManager given adopted events for) s now = manager_step_routes known routes given for adopted events s now
  routes_moved routes _ (ByOther v b) s now = others_keep_routes s b.out b.mover routes b.sent b.all b.not_manager b.manager

  -- each step keeps the routes
  pub step_routes : Routes w → (x : Step) → Follows w (step w x).world → Routes (step w x).world
  step_routes routes x s = routes_moved routes (step w x).world (step_moves w both x) s (step_goes w both x).both.names

  arrives : (given : Input) → IsFor w manager_node given → Arrives w given
  arrives (input.Local order) for = tt
  arrives (input.Message m) for = (fits known m for.1, for.1)

  before_moved : GivesBefore w → Routed w → (v : World) → ManagerMoves w v → Follows w v → Routed v → GivesBefore v
  before_moved before a _ (ByManager given adopted events for) s b =
      let r = manager_input w.manager given in
      let all : Each (λ (m : Message). m.from ≡ manager_node) r.messages = (manager_good known.names given (arrives given for)).0 in
      manager_keeps_before s a b before r.messages (moved_messages w adopted events r) all
  before_moved before a _ (ByOther v b) s routed = others_keep_before s a routed before b.manager

  -- each step keeps which gives stand before a take
  pub step_before : GivesBefore w → Routed w → (x : Step) → Follows w (step w x).world → Routed (step w x).world → GivesBefore (step w x).world
  step_before before a x s b = before_moved before a (step w x).world (step_moves w both x) s b

-- what follows of migrations in a world of which all this is known
pub routed_migrated : (w : World) → Routed w → GivesBefore w → Migrated w
routed_migrated w a before = migrated a.names a.inv a.chain a.routes before
