-- The routes of migrations at the opening, and after an input to the manager.
use Rattle.std.proofs.Common.{List, refl, arith, Option}
use Rattle.curp_cmd.specs.Node.{manager_node}
use Rattle.curp_msg.specs.Input.{Input}
use Rattle.curp_msg.specs.declared.message.Message.{Message}
use Rattle.curp_msg.specs.declared.script.Header.{Header}
use Rattle.curp_order.specs.declared.Event.{Event}
use Rattle.curp_model.specs.Manager.{Attempted, manager_input}
use Rattle.curp_model.specs.World.{World, opening}
use Rattle.curp_facts.specs.Facts.{WasSent}
use Rattle.curp_law_kept.specs.Deeds.{IsFor}
use Rattle.curp_facts.specs.Known.{Known}
use Rattle.curp_facts.specs.Names.{Names}
use Rattle.curp_law_kept.proofs.Gives.{manager_moved, moved_messages, Follows}
use Rattle.curp_facts.specs.Routes.{Routes}
use Rattle.curp_law_runs.proofs.Orders.{manager_orders}
use Rattle.curp_law_runs.proofs.Routes.{manager_keeps_routes}

-- nothing was sent at the opening
pub nothing_sent : (h : Header) (m : Message) → WasSent (opening h) m → ⊥
unfolding opening
nothing_sent h m sent = let at = sent.stands in absurd cc

-- at the opening there is no migration
pub opening_routes : (h : Header) → Routes (opening h)
unfolding opening
opening_routes h = record {
  first = omega arith;
  takes_given = λ part t o. absurd (nothing_sent h _ o.sent);
  gives_given = λ part g o. absurd (nothing_sent h _ o.sent);
  one_source = λ part other t u a b. absurd (nothing_sent h _ a.sent);
  one_target = λ part other g k a b. absurd (nothing_sent h _ a.sent);
  apart = λ part other t g a b. absurd (nothing_sent h _ a.sent);
  in_work = λ m is. absurd cc;
  done = λ number low below idle. absurd (omega (arith, low, below));
}

-- an input to the manager keeps the routes, whatever it adopts and whatever happens besides
pub manager_step_routes : {w : World} (known : Known w) → Routes w → (given : Input) → IsFor w manager_node given → (adopted : Option Attempted) (events : List Event)
    → Follows w (manager_moved w adopted events (manager_input w.manager given)) → Names (manager_moved w adopted events (manager_input w.manager given))
    → Routes (manager_moved w adopted events (manager_input w.manager given))
manager_step_routes {w} known routes given for adopted events s now =
    manager_keeps_routes s now routes (manager_input w.manager given) (manager_orders known.names known.inv routes given for) (moved_messages w adopted events (manager_input w.manager given)) refl
