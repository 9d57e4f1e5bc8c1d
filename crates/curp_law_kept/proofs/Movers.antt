-- Which node has spoken in a step.
use Rattle.std.proofs.Common.{◌≡◌, ◌≢◌, ◌⊎◌, inl, inr, List, [], ◌++◌, append-nil, refl, ap, sym, ◌∙◌}
use Rattle.curp_base.specs.Words.{Each}
use Rattle.curp_base.proofs.Lists.{Each-weaker}
use Rattle.curp_cmd.specs.Node.{backup_node, client_node, manager_node, master_node, witness_node}
use Rattle.curp_cmd.specs.declared.node.NodeId.{NodeId}
use Rattle.curp_cmd.specs.declared.node.NodeKind.TheVariants as kind
use Rattle.curp_msg.specs.Input.{Input}
use Rattle.curp_msg.specs.declared.message.Message.{Message}
use Rattle.curp_order.specs.declared.Event.{Event}
use Rattle.curp_model.specs.Backup.{backup_input}
use Rattle.curp_model.specs.Client.{client_input}
use Rattle.curp_model.specs.Manager.{adoption, manager_input}
use Rattle.curp_model.specs.Recovery.{master_input}
use Rattle.curp_model.specs.Witness.{witness_input}
use Rattle.curp_model.specs.World.{World, messages}
use Rattle.curp_law_kept.specs.Deeds.{IsFor}
use Rattle.curp_law_kept.specs.BackupEffect.{BackupSays}
use Rattle.curp_law_kept.specs.WitnessEffect.{WitnessSays}
use Rattle.curp_law_kept.proofs.BackupEffects.{backup_effect}
use Rattle.curp_law_kept.proofs.WitnessEffects.{witness_effect}
use Rattle.curp_law_kept.proofs.Cases.{ByBackup, ByClient, ByManager, ByMaster, ByWitness, Rests, StepCase, Stays}
use Rattle.curp_law_kept.proofs.Clients.{client_messages}
use Rattle.curp_facts.specs.Known.{Known}
use Rattle.curp_law_kept.proofs.MastersMoves.{heard_in, input_moves, speaker, stage_from}
use Rattle.curp_law_kept.proofs.ManagerWorlds.{manager_moved}
use Rattle.curp_model.proofs.Batches.{all_of-kept}

-- one node that isn't the manager has said this more
pub record OtherSpoke (w v : World) : Type 0 where
  pub out : List Message
  pub mover : NodeId
  pub sent : messages v ≡ messages w ++ out
  pub all : Each (λ (m : Message). m.from ≡ mover) out
  pub not_manager : manager_node ≢ mover

-- the manager got an input
pub record ManagerSpoke (w v : World) : Type 0 where
  pub given : Input
  pub for : IsFor w manager_node given
  pub events : List Event
  pub none : events ≡ []
  pub is : v ≡ manager_moved w (adoption w.manager given) events (manager_input w.manager given)

apart : {node : NodeId} → (kind.Manager ≡ node.kind → ⊥) → manager_node ≢ node
apart other e = other (ap (λ (x : NodeId). x.kind) e)

module _ (w v : World) (known : Known w) where
  spoke : (u : World) → v ≡ u → (out : List Message) → messages u ≡ messages w ++ out → (mover : NodeId) → Each (λ (m : Message). m.from ≡ mover) out → manager_node ≢ mover → OtherSpoke w v ⊎ ManagerSpoke w v
  spoke u is out sent mover all other = inl (record { out = out; mover = mover; sent = ap messages is ∙ sent; all = all; not_manager = other })

  -- the manager got an input, or another node, if any, has spoken
  pub who_spoke : StepCase w v → OtherSpoke w v ⊎ ManagerSpoke w v
  who_spoke (Stays is) = spoke w is [] (sym (append-nil (messages w))) (client_node 0) tt (apart (λ e. absurd cc))
  who_spoke (Rests r) = spoke _ r.is [] (all_of-kept w.sent []) (client_node 0) tt (apart (λ e. absurd cc))
  who_spoke (ByClient n given c here for made key is) =
      spoke _ is (client_input n c given).messages (all_of-kept w.sent (client_input n c given).messages) (client_node n) (client_messages known n given for c here made) (apart (λ e. absurd cc))
  who_spoke (ByBackup n given b here for events none is) =
      spoke _ is (backup_input n b given).messages (all_of-kept w.sent (backup_input n b given).messages) (backup_node n)
      (Each-weaker (BackupSays n given (backup_input n b given).state) (λ (m : Message). m.from ≡ backup_node n) (λ m k. k.sender) (backup_input n b given).messages (backup_effect n b given).says) (apart (λ e. absurd cc))
  who_spoke (ByWitness n given x here for events none is) =
      spoke _ is (witness_input n x given).messages (all_of-kept w.sent (witness_input n x given).messages) (witness_node n)
      (Each-weaker (WitnessSays n given (witness_input n x given).state) (λ (m : Message). m.from ≡ witness_node n) (λ m k. k.sender) (witness_input n x given).messages (witness_effect n x given).says) (apart (λ e. absurd cc))
  who_spoke (ByMaster n given m here for events none is) =
      spoke _ is (master_input n m given).messages (all_of-kept w.sent (master_input n m given).messages) (master_node n)
      (stage_from known n (speaker known n given) (heard_in known n given) m (master_input n m given).state (master_input n m given).messages (input_moves known n m (record { its_kind = refl; its_state = here }) given for)) (apart (λ e. absurd cc))
  who_spoke (ByManager given for events none is) = inr (record { given = given; for = for; events = events; none = none; is = is })
