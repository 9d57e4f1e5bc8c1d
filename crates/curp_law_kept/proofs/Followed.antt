-- Each step of a run follows on its world: nothing is taken back, and lists that become ready are whole.
use Rattle.std.proofs.Common.{◌≡◌, ◌≢◌, ℕ, List, [], ◌++◌, append-nil, refl, ap, sym, ◌∙◌, subst, Some}
use Rattle.curp_base.specs.Words.{Each, numbered}
use Rattle.curp_base.proofs.Lists.{Each-weaker}
use Rattle.curp_cmd.specs.Node.{backup_node, client_node, manager_node, master_node, witness_node}
use Rattle.curp_cmd.specs.declared.node.NodeId.{NodeId}
use Rattle.curp_cmd.specs.declared.node.NodeKind.TheVariants as kind
use Rattle.curp_msg.specs.Moved.{within}
use Rattle.curp_msg.specs.Input.{Input}
use Rattle.curp_msg.specs.declared.message.Message.{Message}
use Rattle.curp_msg.specs.declared.script.Step.{Step}
use Rattle.curp_order.specs.declared.Event.{Event}
use Rattle.curp_model.specs.Backup.{backup_input}
use Rattle.curp_model.specs.Client.{client_input}
use Rattle.curp_model.specs.Manager.{adoption, manager_input}
use Rattle.curp_model.specs.Named.{IsMaster}
use Rattle.curp_model.specs.Recovery.{MasterStage, master_input}
use Rattle.curp_model.specs.Witness.{witness_input}
use Rattle.curp_model.specs.World.{World, kept, messages, step, with_master}
use Rattle.curp_facts.specs.Growth.{Grows}
use Rattle.curp_msg.specs.Script.{IsStep}
use Rattle.curp_law_kept.specs.Deeds.{IsFor}
use Rattle.curp_base.proofs.Numbered.{numbered_set_same}
use Rattle.curp_law_kept.proofs.WorldsGrow.{step_grows}
use Rattle.curp_law_kept.specs.BackupEffect.{BackupSays}
use Rattle.curp_law_kept.specs.WitnessEffect.{WitnessSays}
use Rattle.curp_law_kept.proofs.BackupEffects.{backup_effect}
use Rattle.curp_law_kept.proofs.WitnessEffects.{witness_effect}
use Rattle.curp_law_kept.proofs.Cases.{ByBackup, ByClient, ByManager, ByMaster, ByWitness, Rests, StepCase, Stays, step_case}
use Rattle.curp_law_kept.proofs.Clients.{client_messages}
use Rattle.curp_facts.specs.Known.{Known}
use Rattle.curp_law_kept.proofs.Known.{Frame}
use Rattle.curp_law_kept.proofs.ManagersDo.{manager_does}
use Rattle.curp_law_kept.proofs.ManagersReady.{manager_follows}
use Rattle.curp_law_kept.proofs.MastersMoves.{MasterStep, heard_in, input_idle, input_moves, input_step, speaker, stage_from}
use Rattle.curp_law_kept.proofs.MastersReady.{step_follows}
use Rattle.curp_law_kept.proofs.Others.{SaysMore, nothing_ready}
use Rattle.curp_law_kept.proofs.Steps.{known_step}
use Rattle.curp_law_kept.proofs.Worlds.{other_item, same_history}
use Rattle.curp_facts.specs.Names.{Names}
use Rattle.curp_law_kept.proofs.Later.{Later}
use Rattle.curp_law_kept.proofs.Runs.{step_goes}
use Rattle.curp_law_kept.proofs.ManagerWorlds.{moved_messages}
use Rattle.curp_law_kept.proofs.Words.{Follows}
use Rattle.curp_model.proofs.Batches.{all_of-kept}

apart : {node : NodeId} → (kind.Manager ≡ node.kind → ⊥) → manager_node ≢ node
apart other e = other (ap (λ (x : NodeId). x.kind) e)

-- the world after an input to a master, as its step
module _ {w : World} (known : Known w) (n : ℕ) (given : Input) (m : MasterStage) (here : numbered w.masters n ≡ Some m) (for : IsFor w (master_node n) given) (events : List Event) (none : events ≡ []) where
  abbrev pub master_world : World
  master_world = (kept w events (within (with_master w n given m) (master_input n m given))).world

  was : IsMaster w (master_node n) m
  was = record { its_kind = refl; its_state = here }

  named : (node : NodeId) → node.kind ≡ kind.Master → node.number ≡ n → node ≡ master_node n
  named node p q = ap (λ k. record { kind = k; number = node.number }) p ∙ ap (λ (x : ℕ). record { kind = kind.Master; number = x }) q

  others : (node : NodeId) (x : MasterStage) → node ≢ master_node n → IsMaster master_world node x → IsMaster w node x
  others node x other is = record { its_kind = is.its_kind; its_state = other_item w.masters n m (master_input n m given).state here node.number x (λ e. other (named node is.its_kind e)) is.its_state }

  frame : Frame w master_world (master_input n m given).messages (master_node n)
  frame = record {
    sent = all_of-kept w.sent (master_input n m given).messages;
    all = stage_from known n (speaker known n given) (heard_in known n given) m (master_input n m given).state (master_input n m given).messages (input_moves known n m was given for);
    not_manager = apart (λ e. absurd cc);
    manager = refl;
    clients = refl;
    history = same_history w.history events (master_input n m given).completed none (input_idle known n m was given for);
  }

  is_now : IsMaster master_world (master_node n) (master_input n m given).state
  is_now = record { its_kind = refl; its_state = numbered_set_same w.masters n m (master_input n m given).state here }

  pub master_step : Grows w master_world → Later w master_world
      → MasterStep w master_world n (speaker known n given) (heard_in known n given) m (master_input n m given).state (master_input n m given).messages
  master_step grows later = input_step known n master_world m given here for grows later frame is_now others refl refl

module _ {w v : World} (known : Known w) (grows : Grows w v) (later : Later w v) (names : Names v) where
  speaks : (out : List Message) (mover : NodeId) → messages v ≡ messages w ++ out → Each (λ (m : Message). m.from ≡ mover) out → manager_node ≢ mover → mover.kind ≢ kind.Master → v.manager ≡ w.manager → Follows w v
  speaks out mover sent all other not_master manager =
      let more : SaysMore w v out mover = record { sent = sent; all = all; not_manager = other; manager = manager } in
      record { grows = grows; later = later; names = known.names; steady = known.steady; ready = nothing_ready more known.names not_master }

  -- what a step leaves follows on its world
  pub case_follows : StepCase w v → Follows w v
  case_follows (Stays is) = speaks [] (client_node 0) (ap messages is ∙ sym (append-nil (messages w))) tt (apart (λ e. absurd cc)) (λ e. absurd cc) (ap (λ (u : World). u.manager) is)
  case_follows (Rests r) = speaks [] (client_node 0) (ap messages r.is ∙ all_of-kept w.sent []) tt (apart (λ e. absurd cc)) (λ e. absurd cc) (ap (λ (u : World). u.manager) r.is)
  case_follows (ByClient n given c here for made key is) =
      speaks (client_input n c given).messages (client_node n) (ap messages is ∙ all_of-kept w.sent (client_input n c given).messages) (client_messages known n given for c here made) (apart (λ e. absurd cc)) (λ e. absurd cc) (ap (λ (u : World). u.manager) is)
  case_follows (ByBackup n given b here for events none is) =
      speaks (backup_input n b given).messages (backup_node n) (ap messages is ∙ all_of-kept w.sent (backup_input n b given).messages)
      (Each-weaker (BackupSays n given (backup_input n b given).state) (λ (m : Message). m.from ≡ backup_node n) (λ m k. k.sender) (backup_input n b given).messages (backup_effect n b given).says)
      (apart (λ e. absurd cc)) (λ e. absurd cc) (ap (λ (u : World). u.manager) is)
  case_follows (ByWitness n given x here for events none is) =
      speaks (witness_input n x given).messages (witness_node n) (ap messages is ∙ all_of-kept w.sent (witness_input n x given).messages)
      (Each-weaker (WitnessSays n given (witness_input n x given).state) (λ (m : Message). m.from ≡ witness_node n) (λ m k. k.sender) (witness_input n x given).messages (witness_effect n x given).says)
      (apart (λ e. absurd cc)) (λ e. absurd cc) (ap (λ (u : World). u.manager) is)
  case_follows (ByMaster n given m here for events none is) =
      subst (Follows w) (sym is) (step_follows known (master_step known n given m here for events none (subst (Grows w) is grows) (subst (Later w) is later)))
  case_follows (ByManager given for events none is) =
      subst (Follows w) (sym is) (manager_follows known (subst Names is names) (subst (Later w) is later) (manager_input w.manager given).messages (moved_messages w (adoption w.manager given) events (manager_input w.manager given))
      (manager_does known given for).messages (subst (Grows w) is grows))

-- each step follows on its world
pub follows_step : (w : World) (known : Known w) (x : Step) → IsStep x → Follows w (step w x).world
follows_step w known x its =
    case_follows known (step_grows w x) (step_goes w (record { names = known.names; nodes = known.nodes }) x).later (known_step w known x).names (step_case w known x its)
