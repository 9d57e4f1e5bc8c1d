-- A step in which a master has moved, or nothing, keeps what nodes and messages keep.
use Rattle.std.proofs.Common.{◌≡◌, ◌≢◌, inl, inr, ℕ, ◌+◌, List, [], ◌++◌, length, ap, sym, ◌∙◌, subst, Option, Some}
use Rattle.curp_base.specs.Words.{At, numbered}
use Rattle.curp_cmd.specs.Node.{client_node, manager_node, master_node}
use Rattle.curp_cmd.specs.declared.node.NodeId.{NodeId}
use Rattle.curp_cmd.specs.declared.node.NodeKind.TheVariants as kind
use Rattle.curp_msg.specs.declared.body.Body.{Body}
use Rattle.curp_msg.specs.Input.{Input}
use Rattle.curp_msg.specs.declared.message.Message.{Message}
use Rattle.curp_model.specs.Backup.{BackupState}
use Rattle.curp_model.specs.Manager.{ManagerState}
use Rattle.curp_model.specs.Named.{IsBackup, IsMaster, IsWitness}
use Rattle.curp_model.specs.Recovery.{MasterStage, master_input}
use Rattle.curp_model.specs.Witness.{WitnessState}
use Rattle.curp_model.specs.World.{World, messages}
use Rattle.curp_facts.specs.Facts.{IsAmong, IsGiven, Lists}
use Rattle.curp_facts.specs.Growth.{Grows}
use Rattle.curp_facts.specs.Invariant.{Invariant}
use Rattle.curp_facts.specs.Nodes.{BackupOk, MasterOk, StartedAt, WitnessOk}
use Rattle.curp_facts.specs.Said.{Says}
use Rattle.curp_law_kept.specs.Deeds.{IsFor}
use Rattle.curp_facts.specs.Known.{Known}
use Rattle.curp_law_kept.proofs.Known.{Frame, all_say, clients_stay, completed_stays, given_before, history_stays, present_stays, moving_stays, reads_stay}
use Rattle.curp_law_kept.proofs.MastersKept.{master_keeps}
use Rattle.curp_law_kept.proofs.MastersMoves.{MasterStep, input_step}
use Rattle.curp_law_kept.proofs.MastersReady.{step_follows}
use Rattle.curp_law_kept.proofs.MastersSaid.{master_says}
use Rattle.curp_law_kept.proofs.Moved.{given_back, ready_back, says_no_more}
use Rattle.curp_law_kept.proofs.Later.{Later}
use Rattle.curp_law_kept.proofs.MastersStay.{master_ok_later}
use Rattle.curp_law_kept.proofs.Nodes.{backup_ok_later, witness_ok_later}
use Rattle.curp_law_kept.proofs.Words.{Follows, one_state}
use Rattle.curp_cmd.proofs.Nodes.{either_node}

module _ {w v : World} (known : Known w) where
  -- ---- all together

  -- the mover aside, what is kept is kept
  module _ (s : Follows w v) {out : List Message} {mover : NodeId} (f : Frame w v out mover) where
    shape : v.manager.shape ≡ w.manager.shape
    shape = ap (λ (g : ManagerState). g.shape) f.manager

    -- a master that hasn't moved
    master_stays : (node : NodeId) (m : MasterStage) → node ≢ mover → IsMaster w node m → MasterOk v node m
    master_stays node m other was = master_ok_later s known.inv node m (says_no_more w v out f.sent mover f.all node other) (known.inv.masters node m was)

    -- a backup that hasn't moved
    backup_stays : (l : Lists) → IsGiven v l → (node : NodeId) → IsAmong node l.backups → (b : BackupState) → IsBackup w node b → BackupOk v l b
    backup_stays l given node named b was = backup_ok_later s l b (known.inv.backups l (given_before known s f l given) node named b was)

    -- a witness that hasn't moved
    witness_stays : (node : NodeId) (x : WitnessState) → IsWitness w node x → WitnessOk v x
    witness_stays node x was = witness_ok_later s x (known.inv.witnesses node x was)

    started_stays : (l : Lists) → IsGiven v l → (node : NodeId) → IsAmong node l.witnesses → (x : WitnessState) → IsWitness w node x → StartedAt l x
    started_stays l given node named x was = known.inv.started l (given_before known s f l given) node named x was

    -- the invariant, where masters, backups and witnesses keep theirs, and what is said now is so
    assembled : ((node : NodeId) (m : MasterStage) → IsMaster v node m → MasterOk v node m)
        → ((l : Lists) → IsGiven v l → (node : NodeId) → IsAmong node l.backups → (b : BackupState) → IsBackup v node b → BackupOk v l b)
        → ((node : NodeId) (x : WitnessState) → IsWitness v node x → WitnessOk v x)
        → ((l : Lists) → IsGiven v l → (node : NodeId) → IsAmong node l.witnesses → (x : WitnessState) → IsWitness v node x → StartedAt l x)
        → ((j : ℕ) (m : Message) → At out j m → Says v (length (messages w) + j) m.from m.to m.body) → Invariant v
    assembled masters backups witnesses started say = record {
      masters = masters;
      backups = backups;
      witnesses = witnesses;
      started = started;
      clients = clients_stay known s f;
      history = history_stays known s f;
      completed = completed_stays known s f;
      reads = reads_stay known s f;
      messages = all_say known s f say;
      present = present_stays known s f;
      moving = moving_stays known s f;
    }

  -- ---- nodes that are as they were

  masters_same : v.masters ≡ w.masters → (node : NodeId) (m : MasterStage) → IsMaster v node m → IsMaster w node m
  masters_same same node m is = record { its_kind = is.its_kind; its_state = subst (λ (xs : List MasterStage). numbered xs node.number ≡ Some m) same is.its_state }

  backups_same : v.backups ≡ w.backups → (node : NodeId) (b : BackupState) → IsBackup v node b → IsBackup w node b
  backups_same same node b is = record { its_kind = is.its_kind; its_state = subst (λ (xs : List BackupState). numbered xs node.number ≡ Some b) same is.its_state }

  witnesses_same : v.witnesses ≡ w.witnesses → (node : NodeId) (x : WitnessState) → IsWitness v node x → IsWitness w node x
  witnesses_same same node x is = record { its_kind = is.its_kind; its_state = subst (λ (xs : List WitnessState). numbered xs node.number ≡ Some x) same is.its_state }

  -- ---- a master

  -- an input to a master keeps all
  module _ {n : ℕ} {from : NodeId} {heard : Option Body} {m k : MasterStage} {out : List Message} (s : MasterStep w v n from heard m k out) where
    pub master_step_keeps : Invariant v
    master_step_keeps = assembled (step_follows known s) s.frame masters
        (λ l given node named b is. backup_stays (step_follows known s) s.frame l given node named b (backups_same s.backups node b is))
        (λ node x is. witness_stays (step_follows known s) s.frame node x (witnesses_same s.witnesses node x is))
        (λ l given node named x is. started_stays (step_follows known s) s.frame l given node named x (witnesses_same s.witnesses node x is))
        (master_says known m k out s)
      where
        own : (node : NodeId) (x : MasterStage) → node ≡ master_node n → IsMaster v node x → MasterOk v node x
        own node x e is =
            let here : IsMaster v (master_node n) x = subst (λ (z : NodeId). IsMaster v z x) e is in
            let same : k ≡ x = one_state _ k x s.is.its_state here.its_state in
            subst (λ (z : NodeId). MasterOk v z x) (sym e) (subst (MasterOk v (master_node n)) same (master_keeps known s))

        masters : (node : NodeId) (x : MasterStage) → IsMaster v node x → MasterOk v node x
        masters node x is = elim (either_node node (master_node n)) [
          | inl e ↦ own node x e is
          | inr other ↦ master_stays (step_follows known s) s.frame node x other (s.others node x other is)
        ]

  -- what comes to a master keeps all
  pub master_input_keeps : (n : ℕ) (m : MasterStage) (given : Input) → numbered w.masters n ≡ Some m → IsFor w (master_node n) given → Grows w v → Later w v
      → Frame w v (master_input n m given).messages (master_node n) → IsMaster v (master_node n) (master_input n m given).state
      → ((node : NodeId) (x : MasterStage) → node ≢ master_node n → IsMaster v node x → IsMaster w node x) → v.backups ≡ w.backups → v.witnesses ≡ w.witnesses → Invariant v
  master_input_keeps n m given here for grows later frame is others backups witnesses = master_step_keeps (input_step known n v m given here for grows later frame is others backups witnesses)

-- where nothing moves, nothing changes
pub nothing_keeps : {w v : World} → Known w → messages v ≡ messages w ++ [] → v.manager ≡ w.manager → v.masters ≡ w.masters → v.backups ≡ w.backups → v.witnesses ≡ w.witnesses
    → v.clients ≡ w.clients → v.history ≡ w.history → Grows w v → Later w v → Invariant v
nothing_keeps {w} {v} known sent manager masters backups witnesses clients history grows later =
    assembled known s f
    (λ node m is. master_stays known s f node m (apart node is.its_kind) (masters_same known masters node m is))
    (λ l given node named b is. backup_stays known s f l given node named b (backups_same known backups node b is))
    (λ node x is. witness_stays known s f node x (witnesses_same known witnesses node x is))
    (λ l given node named x is. started_stays known s f l given node named x (witnesses_same known witnesses node x is))
    (λ j m at. absurd cc)
  where
    apart : (node : NodeId) → node.kind ≡ kind.Master → node ≢ client_node 0
    apart node k e = kinds (sym k ∙ ap (λ (x : NodeId). x.kind) e)
      where
        kinds : kind.Master ≡ kind.Client → ⊥
        kinds e = cc

    not_manager : manager_node ≢ client_node 0
    not_manager e = kinds (ap (λ (x : NodeId). x.kind) e)
      where
        kinds : kind.Manager ≡ kind.Client → ⊥
        kinds e = cc

    f : Frame w v [] (client_node 0)
    f = record { sent = sent; all = tt; not_manager = not_manager; manager = manager; clients = clients; history = history }

    s : Follows w v
    s = record {
      grows = grows;
      later = later;
      names = known.names;
      steady = known.steady;
      ready = λ l ready. inl (ready_back w v [] sent (client_node 0) tt (ap (λ (g : ManagerState). g.shape) manager) not_manager l
          (apart l.master (known.names.given l (given_back w v [] sent (client_node 0) tt (ap (λ (g : ManagerState). g.shape) manager) not_manager l ready.given)).master.0) ready);
    }
