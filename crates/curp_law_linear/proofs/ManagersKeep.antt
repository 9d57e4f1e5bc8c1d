-- An input to the manager keeps what is kept of the order.
use Rattle.std.proofs.Common.{◌≡◌, List, [], refl, Option, Some, None}
use Rattle.curp_cmd.specs.Node.{manager_node}
use Rattle.curp_msg.specs.Input.{Input}
use Rattle.curp_order.specs.declared.Event.{Event}
use Rattle.curp_model.specs.Manager.{Attempted, adoption, manager_input}
use Rattle.curp_model.specs.World.{World}
use Rattle.curp_facts.specs.Growth.{Grows}
use Rattle.curp_law_kept.specs.Deeds.{IsFor}
use Rattle.curp_facts.specs.Known.{Known}
use Rattle.curp_law_kept.proofs.Gives.{manager_does, manager_follows, Later, manager_moved, moved_messages, Follows}
use Rattle.curp_law_linear.specs.Ordered.{Ordered}
use Rattle.curp_law_linear.specs.Refined.{Refines, EarlyAfter}
use Rattle.curp_law_linear.proofs.Always.{KeepsOrder}
use Rattle.curp_law_linear.proofs.ManagersLogs.{manager_logs}
use Rattle.curp_law_linear.proofs.ManagersRefine.{AdoptsOnly, ManagerRefines, manager_refines}
use Rattle.curp_law_linear.proofs.ReadsAdoption.{adoption_step_reads}
use Rattle.curp_law_linear.proofs.ReadsLater.{ReadsOk}
use Rattle.curp_law_linear.proofs.ReadsManagerSteps.{manager_step_reads}
use Rattle.curp_facts.specs.Predecessors.{Predecessors}
use Rattle.curp_facts.specs.Migrated.{Migrated}
use Rattle.curp_facts.specs.Routes.{Routes}

module _ {w : World} (known : Known w) (chain : Predecessors w) (routes : Routes w) (migrated : Migrated w) (ordered : Ordered w)
    (events : List Event) (none : events ≡ []) (given : Input) (for : IsFor w manager_node given) where
  abbrev v : World
  v = manager_moved w (adoption w.manager given) events (manager_input w.manager given)

  pub manager_keeps_order : Grows w v → Later w v → Known v → Predecessors v → Routes v → KeepsOrder w v
  manager_keeps_order grows later now chain_now routes_now =
      let r : ManagerRefines w v (adoption w.manager given) = manager_refines known chain routes migrated ordered events none given for now.names later routes_now in
      record {
        refines = r.its;
        logs = manager_logs known chain routes migrated ordered events none given for now.names later;
        reads = reads r.its (adoption w.manager given) refl r.adopts r.early;
      }
    where
      follows : Follows w v
      follows = manager_follows known now.names later (manager_input w.manager given).messages (moved_messages w (adoption w.manager given) events (manager_input w.manager given)) (manager_does known given for).messages grows

      reads : (r : Refines w v) (o : Option Attempted) → adoption w.manager given ≡ o → AdoptsOnly w o r.moves → EarlyAfter w v o → ReadsOk v
      reads r None is quiet early = manager_step_reads known given (adoption w.manager given) events now chain chain_now ordered follows for is is r quiet
      reads r (Some a) is adopts early = adoption_step_reads known given (adoption w.manager given) events a for is now chain chain_now ordered follows is r adopts early
