-- What another node than the manager does changes no name, and what was so of messages and of other nodes stays.
use Rattle.std.proofs.Common.{◌≡◌, ◌≢◌, inl, inr, ℕ, ◌+◌, ◌-◌, ◌<◌, List, [], ◌++◌, length, map, set, refl, sym, ◌∙◌, ap, subst, arith, Some}
use Rattle.std.proofs.lemmas.List.{length-set}
use Rattle.curp_base.specs.Words.{Each, numbered}
use Rattle.curp_base.proofs.Lists.{Each-append, Each-weaker}
use Rattle.curp_cmd.specs.Node.{backup_node, client_node, manager_node, master_node, witness_node}
use Rattle.curp_cmd.specs.declared.node.NodeId.{NodeId}
use Rattle.curp_cmd.specs.declared.node.NodeKind.TheVariants as kind
use Rattle.curp_msg.specs.Moved.{Moved, says, within}
use Rattle.curp_msg.specs.declared.message.Message.{Message}
use Rattle.curp_order.specs.declared.Event.{Event}
use Rattle.curp_model.specs.Backup.{BackupState}
use Rattle.curp_model.specs.Client.{ClientState}
use Rattle.curp_model.specs.Manager.{ManagerState}
use Rattle.curp_model.specs.Recovery.{MasterStage}
use Rattle.curp_model.specs.Witness.{WitnessState}
use Rattle.curp_model.specs.World.{World, kept, messages, with_backup, with_client, with_master, with_witness}
use Rattle.curp_facts.specs.Facts.{lists_of_part}
use Rattle.curp_facts.specs.Names.{IsClientNumber, MovingOk, Names, NumbersOk}
use Rattle.curp_facts.specs.Fits.{BackupFits, ClientFits, MasterFits, MessageFits, Nodes, WitnessFits}
use Rattle.curp_law_kept.proofs.Fits.{backup_later, client_fits_later, master_later, message_later, witness_later}
use Rattle.curp_law_kept.proofs.KeepersFit.{AllSaid, Said}
use Rattle.curp_law_kept.proofs.Later.{Later, client_later, moving_later}
use Rattle.curp_law_kept.proofs.NumberedLists.{among_each, numbered_set_cases}
use Rattle.curp_law_kept.proofs.Moves.{Move, Nothing}
use Rattle.curp_law_kept.proofs.Quiet.{names_stay}
use Rattle.curp_law_kept.proofs.ManagerWorlds.{sent_cases, sent_later}
use Rattle.curp_msg.specs.Input.{Input}
use Rattle.curp_base.proofs.Numbered.{number_within}
use Rattle.curp_model.proofs.Batches.{all_of-kept}

-- shape and names, and who says what to whom
pub record Both (w : World) : Type 0 where
  pub names : Names w
  pub nodes : Nodes w

-- a later world with both
pub record Goes (w v : World) : Type 0 where
  pub both : Both v
  pub later : Later w v

-- the manager is as it was, there are as many nodes, and these messages came
pub record Beside (w v : World) (out : List Message) : Type 0 where
  pub manager : v.manager ≡ w.manager
  pub clients : length v.clients ≡ length w.clients
  pub masters : length v.masters ≡ length w.masters
  pub backups : length v.backups ≡ length w.backups
  pub witnesses : length v.witnesses ≡ length w.witnesses
  pub came : messages v ≡ messages w ++ out

module _ {w v : World} (n : Names w) (out : List Message) (b : Beside w v out) where
  pub beside_later : Later w v
  beside_later = record {
    shape = ap (λ (g : ManagerState). g.shape) b.manager;
    epoch = omega (arith, ap (λ (g : ManagerState). g.next.epoch) b.manager);
    version = omega (arith, ap (λ (g : ManagerState). g.next.version) b.manager);
    clients = omega (arith, b.clients);
    masters = omega (arith, b.masters);
    backups = omega (arith, b.backups);
    witnesses = omega (arith, b.witnesses);
    sent = sent_later w v out b.came;
  }

  beside_numbers : NumbersOk v
  beside_numbers = record {
    clients = b.clients ∙ n.numbers.clients ∙ ap (λ (g : ManagerState). g.shape.clients) (sym b.manager);
    masters = omega (arith, b.masters, n.numbers.masters, ap (λ (g : ManagerState). g.next.master) b.manager);
    backups = omega (arith, b.backups, n.numbers.backups, ap (λ (g : ManagerState). g.next.backup) b.manager);
    witnesses = omega (arith, b.witnesses, n.numbers.witnesses, ap (λ (g : ManagerState). g.next.witness) b.manager);
    parts = subst (λ (g : ManagerState). length g.config.parts ≡ g.shape.parts) (sym b.manager) n.numbers.parts;
    doing = subst (λ (g : ManagerState). length g.doing ≡ g.shape.parts) (sym b.manager) n.numbers.doing;
    epoch = subst (λ (g : ManagerState). g.next.epoch + g.shape.parts ≡ g.next.master + 1) (sym b.manager) n.numbers.epoch;
    above = subst (λ (g : ManagerState). 1 < g.next.epoch) (sym b.manager) n.numbers.above;
    version = subst (λ (g : ManagerState). 1 < g.next.version) (sym b.manager) n.numbers.version;
  }

  -- another node says nothing in the manager's name
  beside_moves : (me : NodeId) → me.kind ≢ kind.Manager → AllSaid w me out → Move w v Nothing
  beside_moves me other all = record {
    later = beside_later;
    said = λ node x sent. elim (sent_cases w v out b.came (says manager_node node x) sent) [
      | inl was ↦ inl was
      | inr now ↦ absurd (other (ap (λ (y : NodeId). y.kind) (sym (among_each (Said w me) out all (says manager_node node x) now).from)))
    ];
  }

  pub beside_names : (me : NodeId) → me.kind ≢ kind.Manager → AllSaid w me out → Names v
  beside_names me other all = names_stay n (beside_moves me other all) beside_numbers
      (ap (λ (g : ManagerState). map lists_of_part g.config.parts) b.manager) (ap (λ (g : ManagerState). g.doing) b.manager)
      (subst (λ (g : ManagerState). Each (IsClientNumber v) g.gone) (sym b.manager) (Each-weaker (IsClientNumber w) (IsClientNumber v) (client_later beside_later) w.manager.gone n.gone))
      (subst (λ (g : ManagerState). MovingOk v g.moving) (sym b.manager) (moving_later beside_later w.manager.moving n.moving))

  pub beside_said : (me : NodeId) → AllSaid w me out → Each (MessageFits w) (messages w) → Each (MessageFits v) (messages v)
  beside_said me all was = subst (Each (MessageFits v)) (sym b.came) (Each-append (MessageFits v) (messages w) out
      (Each-weaker (MessageFits w) (MessageFits v) (message_later beside_later) (messages w) was)
      (Each-weaker (Said w me) (MessageFits v) (λ (m : Message) s. message_later beside_later m s.fits) out all))

-- one item was set, and the others hold as before
set_all : {S : Type 0} (P Q : ℕ → S → Type 0) (xs : List S) (k : ℕ) (old new : S) → numbered xs k ≡ Some old → ((i : ℕ) (x : S) → P i x → Q i x) → Q k new
    → ((i : ℕ) (x : S) → numbered xs i ≡ Some x → P i x) → (i : ℕ) (x : S) → numbered (set xs (k - 1) new) i ≡ Some x → Q i x
set_all P Q xs k old new here weaker one all i x at = elim (numbered_set_cases xs k new (number_within xs k old here).0 i x at) [
  | inl o ↦ weaker i x (all i x o.1)
  | inr o ↦ subst (λ (j : ℕ). Q j x) (sym o.0) (subst (Q k) o.1 one)
]

module _ (w : World) (both : Both w) (events : List Event) where
  -- nothing but what is stopped, the history and the marks changes
  pub nothing_keeps : (r : Moved World) → Beside w (kept w events r).world [] → (kept w events r).world.clients ≡ w.clients → (kept w events r).world.masters ≡ w.masters
      → (kept w events r).world.backups ≡ w.backups → (kept w events r).world.witnesses ≡ w.witnesses → Goes w (kept w events r).world
  nothing_keeps r b clients masters backups witnesses =
      let g = beside_later both.names [] b in
      record {
        later = g;
        both = record {
          names = beside_names both.names [] b (client_node 0) (λ e. absurd cc) tt;
          nodes = record {
            said = beside_said both.names [] b (client_node 0) tt both.nodes.said;
            clients = λ i c at. client_fits_later g i c (both.nodes.clients i c (subst (λ (xs : List ClientState). numbered xs i ≡ Some c) clients at));
            masters = λ i m at. master_later g i m (both.nodes.masters i m (subst (λ (xs : List MasterStage). numbered xs i ≡ Some m) masters at));
            backups = λ i x at. backup_later g x (both.nodes.backups i x (subst (λ (xs : List BackupState). numbered xs i ≡ Some x) backups at));
            witnesses = λ i x at. witness_later g x (both.nodes.witnesses i x (subst (λ (xs : List WitnessState). numbered xs i ≡ Some x) witnesses at));
          };
        };
      }

  pub client_keeps : (k : ℕ) (c : ClientState) → numbered w.clients k ≡ Some c → (r : Moved ClientState) → ClientFits w k r.state → AllSaid w (client_node k) r.messages → Goes w (kept w events (within (with_client w k) r)).world
  client_keeps k c here r ok all =
      let b : Beside w (kept w events (within (with_client w k) r)).world r.messages =
      record { manager = refl; clients = length-set w.clients (k - 1) r.state; masters = refl; backups = refl; witnesses = refl; came = all_of-kept w.sent r.messages } in
      let g = beside_later both.names r.messages b in
      record {
        later = g;
        both = record {
          names = beside_names both.names r.messages b (client_node k) (λ e. absurd cc) all;
          nodes = record {
            said = beside_said both.names r.messages b (client_node k) all both.nodes.said;
            clients = set_all (ClientFits w) (ClientFits (kept w events (within (with_client w k) r)).world) w.clients k c r.state here (client_fits_later g) (client_fits_later g k r.state ok) both.nodes.clients;
            masters = λ i m at. master_later g i m (both.nodes.masters i m at);
            backups = λ i x at. backup_later g x (both.nodes.backups i x at);
            witnesses = λ i x at. witness_later g x (both.nodes.witnesses i x at);
          };
        };
      }

  pub master_keeps : (k : ℕ) (given : Input) (m : MasterStage) → numbered w.masters k ≡ Some m → (r : Moved MasterStage) → MasterFits w k r.state → AllSaid w (master_node k) r.messages → Goes w (kept w events (within (with_master w k given m) r)).world
  master_keeps k given m here r ok all =
      let b : Beside w (kept w events (within (with_master w k given m) r)).world r.messages =
      record { manager = refl; clients = refl; masters = length-set w.masters (k - 1) r.state; backups = refl; witnesses = refl; came = all_of-kept w.sent r.messages } in
      let g = beside_later both.names r.messages b in
      record {
        later = g;
        both = record {
          names = beside_names both.names r.messages b (master_node k) (λ e. absurd cc) all;
          nodes = record {
            said = beside_said both.names r.messages b (master_node k) all both.nodes.said;
            clients = λ i c at. client_fits_later g i c (both.nodes.clients i c at);
            masters = set_all (MasterFits w) (MasterFits (kept w events (within (with_master w k given m) r)).world) w.masters k m r.state here (master_later g) (master_later g k r.state ok) both.nodes.masters;
            backups = λ i x at. backup_later g x (both.nodes.backups i x at);
            witnesses = λ i x at. witness_later g x (both.nodes.witnesses i x at);
          };
        };
      }

  pub backup_keeps : (k : ℕ) (x : BackupState) → numbered w.backups k ≡ Some x → (r : Moved BackupState) → BackupFits w r.state → AllSaid w (backup_node k) r.messages → Goes w (kept w events (within (with_backup w k) r)).world
  backup_keeps k x here r ok all =
      let b : Beside w (kept w events (within (with_backup w k) r)).world r.messages =
      record { manager = refl; clients = refl; masters = refl; backups = length-set w.backups (k - 1) r.state; witnesses = refl; came = all_of-kept w.sent r.messages } in
      let g = beside_later both.names r.messages b in
      record {
        later = g;
        both = record {
          names = beside_names both.names r.messages b (backup_node k) (λ e. absurd cc) all;
          nodes = record {
            said = beside_said both.names r.messages b (backup_node k) all both.nodes.said;
            clients = λ i c at. client_fits_later g i c (both.nodes.clients i c at);
            masters = λ i m at. master_later g i m (both.nodes.masters i m at);
            backups = set_all (λ i. BackupFits w) (λ i. BackupFits (kept w events (within (with_backup w k) r)).world) w.backups k x r.state here (λ i. backup_later g) (backup_later g r.state ok) both.nodes.backups;
            witnesses = λ i y at. witness_later g y (both.nodes.witnesses i y at);
          };
        };
      }

  pub witness_keeps : (k : ℕ) (x : WitnessState) → numbered w.witnesses k ≡ Some x → (r : Moved WitnessState) → WitnessFits w r.state → AllSaid w (witness_node k) r.messages → Goes w (kept w events (within (with_witness w k) r)).world
  witness_keeps k x here r ok all =
      let b : Beside w (kept w events (within (with_witness w k) r)).world r.messages =
      record { manager = refl; clients = refl; masters = refl; backups = refl; witnesses = length-set w.witnesses (k - 1) r.state; came = all_of-kept w.sent r.messages } in
      let g = beside_later both.names r.messages b in
      record {
        later = g;
        both = record {
          names = beside_names both.names r.messages b (witness_node k) (λ e. absurd cc) all;
          nodes = record {
            said = beside_said both.names r.messages b (witness_node k) all both.nodes.said;
            clients = λ i c at. client_fits_later g i c (both.nodes.clients i c at);
            masters = λ i m at. master_later g i m (both.nodes.masters i m at);
            backups = λ i y at. backup_later g y (both.nodes.backups i y at);
            witnesses = set_all (λ i. WitnessFits w) (λ i. WitnessFits (kept w events (within (with_witness w k) r)).world) w.witnesses k x r.state here (λ i. witness_later g) (witness_later g r.state ok) both.nodes.witnesses;
          };
        };
      }
