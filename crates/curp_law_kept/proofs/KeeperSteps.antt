-- A step of a backup, and one of a witness, keep the invariant.
use Rattle.std.proofs.Common.{◌≡◌, ◌≢◌, inl, inr, ℕ, ◌+◌, List, ◌++◌, length, refl, ap, sym, ◌∙◌, subst, Some}
use Rattle.std.proofs.lemmas.Bool.Decides.{eqb_tells}
use Rattle.curp_base.specs.Words.{Each, numbered}
use Rattle.curp_base.proofs.Lists.{Each-at, Each-weaker}
use Rattle.curp_cmd.specs.Node.{backup_node, manager_node, witness_node}
use Rattle.curp_cmd.specs.declared.node.NodeId.{NodeId}
use Rattle.curp_cmd.specs.declared.node.NodeKind.{NodeKind}
use Rattle.curp_cmd.specs.declared.node.NodeKind.TheVariants as kind
use Rattle.curp_msg.specs.Input.{Input}
use Rattle.curp_msg.specs.declared.message.Message.{Message}
use Rattle.curp_model.specs.Backup.{BackupState, backup_input}
use Rattle.curp_model.specs.Named.{IsBackup, IsWitness}
use Rattle.curp_model.specs.Witness.{WitnessState, witness_input}
use Rattle.curp_model.specs.World.{World, messages}
use Rattle.curp_facts.specs.Facts.{IsAmong, IsGiven, Lists}
use Rattle.curp_facts.specs.Growth.{Grows}
use Rattle.curp_facts.specs.Invariant.{Invariant}
use Rattle.curp_facts.specs.Nodes.{BackupOk, StartedAt, WitnessOk}
use Rattle.curp_law_kept.specs.Deeds.{IsFor}
use Rattle.curp_law_kept.specs.BackupEffect.{BackupEffect, BackupSays}
use Rattle.curp_law_kept.specs.WitnessEffect.{WitnessEffect, WitnessSays}
use Rattle.curp_law_kept.proofs.BackupEffects.{backup_effect}
use Rattle.curp_law_kept.proofs.WitnessEffects.{witness_effect}
use Rattle.curp_law_kept.proofs.Backups.{backup_keeps, backup_says}
use Rattle.curp_facts.specs.Known.{Known}
use Rattle.curp_law_kept.proofs.Known.{Frame, all_say, clients_stay, completed_stays, history_stays, moving_stays, present_stays, reads_stay}
use Rattle.curp_law_kept.proofs.Others.{SaysMore, backups_stay, masters_stay, nothing_ready, same_given, started_stay, witnesses_stay}
use Rattle.curp_law_kept.proofs.Witnesses.{started_keeps, witness_keeps, witness_says}
use Rattle.curp_law_kept.proofs.Later.{Later}
use Rattle.curp_law_kept.proofs.Nodes.{backup_ok_later, witness_ok_later}
use Rattle.curp_law_kept.proofs.Words.{Follows, one_state}

-- the world after one node that is neither a master nor the manager has said more, and no client has moved
pub record KeeperMoved (w v : World) (mover : NodeId) (out : List Message) : Type 0 where
  pub grows : Grows w v
  pub later : Later w v
  pub sent : messages v ≡ messages w ++ out
  pub manager : v.manager ≡ w.manager
  pub masters : v.masters ≡ w.masters
  pub clients : v.clients ≡ w.clients
  pub history : v.history ≡ w.history

-- the names of nodes of one kind differ by their numbers
named_apart : {node : NodeId} {k : NodeKind} {n : ℕ} → node.kind ≡ k → node.number ≡ n → node ≡ record { kind = k; number = n }
named_apart {node} {k} {n} p q = ap (λ (x : NodeKind). record { kind = x; number = node.number }) p ∙ ap (λ (x : ℕ). record { kind = k; number = x }) q

module _ {w v : World} (known : Known w) {mover : NodeId} {out : List Message} (moved : KeeperMoved w v mover out) (all : Each (λ (m : Message). m.from ≡ mover) out)
    (not_manager : mover.kind ≢ kind.Manager) (not_master : mover.kind ≢ kind.Master) where
  apart : manager_node ≢ mover
  apart same = not_manager (ap (λ (x : NodeId). x.kind) (sym same))

  abbrev says_more : SaysMore w v out mover
  says_more = record { sent = moved.sent; all = all; not_manager = apart; manager = moved.manager }

  abbrev frame : Frame w v out mover
  frame = record { sent = moved.sent; all = all; not_manager = apart; manager = moved.manager; clients = moved.clients; history = moved.history }

  abbrev follows : Follows w v
  follows = record { grows = moved.grows; later = moved.later; names = known.names; steady = known.steady; ready = nothing_ready says_more known.names not_master }

module _ {w v : World} (known : Known w) (n : ℕ) (given : Input) (b : BackupState) (was : numbered w.backups n ≡ Some b) (for : IsFor w (backup_node n) given)
    (moved : KeeperMoved w v (backup_node n) (backup_input n b given).messages) (now : numbered v.backups n ≡ Some (backup_input n b given).state)
    (others : (m : ℕ) (d : BackupState) → m ≢ n → numbered v.backups m ≡ Some d → numbered w.backups m ≡ Some d) (witnesses : v.witnesses ≡ w.witnesses) where
  -- what nodes and messages keep holds after an input to a backup
  pub backup_step : Invariant v
  backup_step = record {
    masters = masters_stay known s more (λ e. absurd cc) moved.masters;
    backups = backups;
    witnesses = witnesses_stay known s more witnesses;
    started = started_stay known s more witnesses;
    clients = clients_stay known s f;
    history = history_stays known s f;
    completed = completed_stays known s f;
    reads = reads_stay known s f;
    messages = all_say known s f (λ j m at. backup_says known s n given for b (backup_input n b given).state is_was is_now (length (messages w) + j) m (Each-at (BackupSays n given (backup_input n b given).state) (backup_input n b given).messages effect.says j m at));
    present = present_stays known s f;
    moving = moving_stays known s f;
  }
    where
      effect : BackupEffect n given b (backup_input n b given)
      effect = backup_effect n b given

      from_it : Each (λ (m : Message). m.from ≡ backup_node n) (backup_input n b given).messages
      from_it = Each-weaker (BackupSays n given (backup_input n b given).state) (λ (m : Message). m.from ≡ backup_node n) (λ m k. k.sender) (backup_input n b given).messages effect.says

      more : SaysMore w v (backup_input n b given).messages (backup_node n)
      more = says_more known moved from_it (λ e. absurd cc) (λ e. absurd cc)

      f : Frame w v (backup_input n b given).messages (backup_node n)
      f = frame known moved from_it (λ e. absurd cc) (λ e. absurd cc)

      s : Follows w v
      s = follows known moved from_it (λ e. absurd cc) (λ e. absurd cc)

      is_was : IsBackup w (backup_node n) b
      is_was = record { its_kind = refl; its_state = was }

      is_now : IsBackup v (backup_node n) (backup_input n b given).state
      is_now = record { its_kind = refl; its_state = now }

      backups : (l : Lists) → IsGiven v l → (node : NodeId) → IsAmong node l.backups → (d : BackupState) → IsBackup v node d → BackupOk v l d
      backups l here node named d is = elim (eqb_tells node.number n) [
        | inl same ↦
            subst (BackupOk v l) (one_state _ (backup_input n b given).state d now (subst (λ (k : ℕ). numbered v.backups k ≡ Some d) same.1 is.its_state))
            (backup_keeps known s n given for b (backup_input n b given).state is_was is_now l (same_given more l here) (subst (λ (x : NodeId). IsAmong x l.backups) (named_apart is.its_kind same.1) named) effect.move)
        | inr other ↦
            backup_ok_later s l d (known.inv.backups l (same_given more l here) node named d (record { its_kind = is.its_kind; its_state = others node.number d other.1 is.its_state }))
      ]

module _ {w v : World} (known : Known w) (n : ℕ) (given : Input) (x : WitnessState) (was : numbered w.witnesses n ≡ Some x) (for : IsFor w (witness_node n) given)
    (moved : KeeperMoved w v (witness_node n) (witness_input n x given).messages) (now : numbered v.witnesses n ≡ Some (witness_input n x given).state)
    (others : (m : ℕ) (d : WitnessState) → m ≢ n → numbered v.witnesses m ≡ Some d → numbered w.witnesses m ≡ Some d) (backups : v.backups ≡ w.backups) where
  -- and after one to a witness
  pub witness_step : Invariant v
  witness_step = record {
    masters = masters_stay known s more (λ e. absurd cc) moved.masters;
    backups = backups_stay known s more backups;
    witnesses = witnesses;
    started = started;
    clients = clients_stay known s f;
    history = history_stays known s f;
    completed = completed_stays known s f;
    reads = reads_stay known s f;
    messages = all_say known s f (λ j m at. witness_says known s n given for x (witness_input n x given) effect is_was is_now (length (messages w) + j) m (Each-at (WitnessSays n given (witness_input n x given).state) (witness_input n x given).messages effect.says j m at));
    present = present_stays known s f;
    moving = moving_stays known s f;
  }
    where
      effect : WitnessEffect n given x (witness_input n x given)
      effect = witness_effect n x given

      from_it : Each (λ (m : Message). m.from ≡ witness_node n) (witness_input n x given).messages
      from_it = Each-weaker (WitnessSays n given (witness_input n x given).state) (λ (m : Message). m.from ≡ witness_node n) (λ m k. k.sender) (witness_input n x given).messages effect.says

      more : SaysMore w v (witness_input n x given).messages (witness_node n)
      more = says_more known moved from_it (λ e. absurd cc) (λ e. absurd cc)

      f : Frame w v (witness_input n x given).messages (witness_node n)
      f = frame known moved from_it (λ e. absurd cc) (λ e. absurd cc)

      s : Follows w v
      s = follows known moved from_it (λ e. absurd cc) (λ e. absurd cc)

      is_was : IsWitness w (witness_node n) x
      is_was = record { its_kind = refl; its_state = was }

      is_now : IsWitness v (witness_node n) (witness_input n x given).state
      is_now = record { its_kind = refl; its_state = now }

      witnesses : (node : NodeId) (d : WitnessState) → IsWitness v node d → WitnessOk v d
      witnesses node d is = elim (eqb_tells node.number n) [
        | inl same ↦ subst (WitnessOk v) (one_state _ (witness_input n x given).state d now (subst (λ (k : ℕ). numbered v.witnesses k ≡ Some d) same.1 is.its_state))
            (witness_keeps known s n given for x (witness_input n x given) effect is_was is_now)
        | inr other ↦ witness_ok_later s d (known.inv.witnesses node d (record { its_kind = is.its_kind; its_state = others node.number d other.1 is.its_state }))
      ]

      started : (l : Lists) → IsGiven v l → (node : NodeId) → IsAmong node l.witnesses → (d : WitnessState) → IsWitness v node d → StartedAt l d
      started l here node named d is = elim (eqb_tells node.number n) [
        | inl same ↦ subst (StartedAt l) (one_state _ (witness_input n x given).state d now (subst (λ (k : ℕ). numbered v.witnesses k ≡ Some d) same.1 is.its_state))
            (started_keeps known s n given for x (witness_input n x given) effect is_was is_now l (same_given more l here) (subst (λ (y : NodeId). IsAmong y l.witnesses) (named_apart is.its_kind same.1) named))
        | inr other ↦ known.inv.started l (same_given more l here) node named d (record { its_kind = is.its_kind; its_state = others node.number d other.1 is.its_state })
      ]
