-- What is said of the order and of late replies, from what the machine of the order keeps.
use Rattle.std.proofs.Common.{◌≡◌, refl, subst}
use Rattle.curp_order.specs.Order.{IsHistory, IsOrder}
use Rattle.curp_model.specs.World.{World, order}
use Rattle.curp_facts.specs.Kept.{LateRepliesAgree}
use Rattle.curp_facts.specs.Known.{Known}
use Rattle.curp_law_linear.specs.Line.{LineState, StandsIn, completed_order}
use Rattle.curp_law_linear.specs.OfWorld.{line_of}
use Rattle.curp_law_linear.proofs.Discharged.{pure, second}
use Rattle.curp_law_linear.proofs.Growing.{order_grows_on}
use Rattle.curp_law_linear.proofs.Histories.{order_stands, shows_done}
use Rattle.curp_facts.specs.Predecessors.{Predecessors}
use Rattle.curp_facts.specs.Migrated.{Migrated}
use Rattle.curp_law_linear.specs.Grows.{completed_in_order}
use Rattle.curp_law_linear.specs.Ordered.{Ordered}
use Rattle.curp_law_linear.specs.Refined.{Refines}
use Rattle.curp_law_linear.proofs.Clients.{completable_done}

-- the world's history is one
pub history_of_world : {w : World} → Ordered w → IsHistory w.history
history_of_world ordered = ordered.line.order.history

-- the order that the world shows is one of its history
pub order_of_world : {w : World} → Ordered w → IsOrder w.history (order w)
order_of_world {w} ordered = order_stands (line_of w) ordered.line

-- a reply, however late, has the answer that the order gives the request
pub late_replies : {w : World} → Known w → Predecessors w → Migrated w → Ordered w → LateRepliesAgree w
late_replies {w} known chain migrated ordered part id a can =
    let d = completable_done known chain migrated ordered part id a can in
    shows_done (line_of w) ordered.line d.0 d.1 id a d.2 d.3

-- through a step that is moves of the machine they stay in their order
pub order_grows : {w v : World} → Known w → Ordered w → Refines w v → StandsIn (completed_in_order w) (completed_in_order v)
order_grows {w} {v} known ordered r =
    subst (λ (s : LineState). StandsIn (completed_order (line_of w)) (completed_order s)) r.leads
    (order_grows_on pure second r.moves (line_of w) r.fit ordered.line)
