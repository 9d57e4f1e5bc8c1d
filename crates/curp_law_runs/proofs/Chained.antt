-- In every run adopted masters came from the last lists before them.
use Rattle.std.proofs.Common.{inl, inr, List, refl, sym, subst}
use Rattle.curp_cmd.specs.Node.{manager_node}
use Rattle.curp_msg.specs.Moved.{says}
use Rattle.curp_msg.specs.Input.{Input}
use Rattle.curp_msg.specs.Input as input
use Rattle.curp_msg.specs.declared.script.Header.{Header}
use Rattle.curp_msg.specs.declared.script.Step.{Step}
use Rattle.curp_model.specs.Manager.{adoption}
use Rattle.curp_model.specs.World.{World, opening, step, world}
use Rattle.curp_facts.specs.Facts.{WasSent}
use Rattle.curp_msg.specs.Script.{IsRun, IsStep}
use Rattle.curp_law_kept.specs.Deeds.{IsFor}
use Rattle.curp_law_kept.proofs.Gives.{step_case, ManagerSpoke, who_spoke, sent_back, along, known_step, Later, step_goes}
use Rattle.curp_facts.specs.Known.{Known}
use Rattle.curp_facts.specs.Names.{Names}
use Rattle.curp_facts.specs.Predecessors.{Predecessors}
use Rattle.curp_law_runs.proofs.Adopted.{chain_opening, chain_stays}
use Rattle.curp_law_runs.proofs.ManagerChain.{manager_chain}
use Rattle.curp_law_runs.proofs.Uttered.{WasHeard}

module _ (w : World) (known : Known w) where
  heard : (given : Input) → IsFor w manager_node given → WasHeard w given
  heard (input.Local order) for = tt
  heard (input.Message m) for = subst (λ to. WasSent w (says m.from to m.body)) for.0 for.1

  -- each step keeps from where adopted masters came
  pub chain_step : (x : Step) → IsStep x → Predecessors w → Predecessors (step w x).world
  chain_step x its chain = elim (who_spoke w v known (step_case w known x its)) [
    | inl o ↦ chain_stays known.names names later known.inv chain (λ node b sent. sent_back w v o.out o.sent o.mover o.all (says manager_node node b) sent o.not_manager)
    | inr m ↦ by_manager m
  ]
    where
      v : World
      v = (step w x).world

      names : Names v
      names = (known_step w known x).names

      later : Later w v
      later = (step_goes w (record { names = known.names; nodes = known.nodes }) x).later

      by_manager : ManagerSpoke w v → Predecessors v
      by_manager m =
          subst Predecessors (sym m.is)
          (manager_chain known.names known.inv chain m.given (heard m.given m.for) (adoption w.manager m.given) m.events (subst Names m.is names) (subst (Later w) m.is later))
