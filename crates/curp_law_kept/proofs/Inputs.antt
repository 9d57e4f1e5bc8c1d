-- How a serving master moves by a message, whichever it is.
use Rattle.std.proofs.Common.{◌≡◌, ◌≤◌, ℕ, length, Some, refl}
use Rattle.curp_cmd.specs.Node.{master_node}
use Rattle.curp_cmd.specs.declared.node.NodeId.{NodeId}
use Rattle.curp_msg.specs.declared.body.Body.{Body}
use Rattle.curp_msg.specs.declared.body.Body.TheVariants as body
use Rattle.curp_facts.specs.Nodes.{ServingOk}
use Rattle.curp_model.specs.Master.{MasterState, Switch, Switching, by_message, on_serving}
use Rattle.curp_model.specs.declared.Wish.TheVariants.{AtOnce, WhenSynced}
use Rattle.curp_model.specs.World.{World}
use Rattle.curp_law_kept.specs.Moves.{Hears, ServingMove}
use Rattle.curp_law_kept.proofs.Acknowledging.{appended_moves}
use Rattle.curp_law_kept.proofs.Captures.{read_moves, glance_moves}
use Rattle.curp_law_kept.proofs.Migrating.{give_in_moves, take_out_moves}
use Rattle.curp_law_kept.proofs.Ordered.{expire_moves}
use Rattle.curp_law_kept.proofs.Relisting.{adopted_moves, prepare_moves}
use Rattle.curp_law_kept.proofs.Serving.{rests, unless_ends}
use Rattle.curp_law_kept.proofs.Suspects.{collected_moves}
use Rattle.curp_law_kept.proofs.Updates.{update_moves}

-- each list has a backup, also that to which it switches
module _ (w : World) (n : ℕ) (m : MasterState) (ok : ServingOk w (master_node n) m) (filled : 1 ≤ length m.backups) (next_filled : (s : Switch) → m.phase ≡ Switching s → 1 ≤ length s.backups) (from : NodeId) where
  message_moves : (b : Body) → Hears w m from b → ServingMove w n m from (Some b) (by_message n m from b)
  message_moves (body.Update ask) heard = update_moves w n m ok from _ filled AtOnce ask heard
  message_moves (body.Sync ask) heard = update_moves w n m ok from _ filled WhenSynced ask heard
  message_moves (body.Read ask) heard = read_moves w n m ok from _ filled ask heard
  message_moves (body.Glance ask) heard = glance_moves w n m ok from _ filled ask heard.0 heard.1
  message_moves (body.Appended a) heard = appended_moves w n m ok from _ a.round a.answer heard
  message_moves (body.Collected c) heard = collected_moves w n m ok from _ filled c.answer heard
  message_moves (body.Prepare p) heard = prepare_moves w n m ok from filled p m.phase refl
  message_moves (body.Adopted a) heard = adopted_moves w n m ok from next_filled a heard m.phase refl
  message_moves (body.TakeOut t) heard = take_out_moves w n m ok from _ filled t heard
  message_moves (body.GiveIn g) heard = give_in_moves w n m ok from _ filled g heard.0 heard.1
  message_moves (body.ExpireClient client) heard = expire_moves w n m ok from _ filled client heard
  message_moves _ heard = rests w n m ok from _

  -- a message comes
  pub serving_moves : (b : Body) → Hears w m from b → ServingMove w n m from (Some b) (on_serving n m from b)
  unfolding on_serving
  serving_moves b heard = unless_ends w n m ok from (Some b) (by_message n m from b) (message_moves b heard)
