-- The nodes of a header as at opening.
use Rattle.std.proofs.Common.{◌≡◌, ℕ, ◌+◌, ◌*◌, List, [], length, map, replicate, refl, ap, sym, ◌∙◌}
use Rattle.std.proofs.lemmas.List.{length-map, length-replicate}
use Rattle.curp_base.specs.Words.{numbers_from}
use Rattle.curp_model.specs.Backup.{BackupState, installed_backup}
use Rattle.curp_model.specs.Client.{ClientState, fresh_client}
use Rattle.curp_model.specs.Manager.{ManagerState, opening_manager}
use Rattle.curp_model.specs.Recovery.{MasterStage}
use Rattle.curp_model.specs.Witness.{WitnessState, started_witness}
use Rattle.curp_model.specs.World.{opening, opening_master, shape_of, opening_client}
use Rattle.curp_msg.specs.Moved.{Node}
use Rattle.curp_msg.specs.declared.script.Header.{Header}
use Rattle.curp_nodes.specs.Nodes.{HasNumbers, states}
use Rattle.curp_nodes.proofs.Numbers.{named_length}
use Rattle.curp_cluster.specs.Nodes.{AreNumbered, nodes_of}
use Rattle.curp_nodes.proofs.Additions.{none_ahead}

-- nodes that are made as the header says are those of the opening
pub made_opening : (h : Header) (manager : ManagerState) (clients : List (Node ClientState)) (masters : List (Node MasterStage))
    (backups : List (Node BackupState)) (witnesses : List (Node WitnessState))
    → manager ≡ opening_manager (shape_of h)
    → states clients ≡ replicate h.clients (fresh_client h.fast h.protocol manager.config)
    → states masters ≡ map (opening_master (shape_of h)) (numbers_from 1 h.parts)
    → states backups ≡ replicate (h.parts * h.f) (installed_backup 1)
    → states witnesses ≡ replicate (h.parts * h.f) (started_witness h.sets h.ways 1)
    → record { clients = states clients; manager = manager; masters = states masters; backups = states backups; witnesses = states witnesses; sets = h.sets; ways = h.ways }
    ≡ nodes_of (opening h)
unfolding opening
made_opening h manager clients masters backups witnesses of_manager of_clients of_masters of_backups of_witnesses =
    let c : states clients ≡ replicate h.clients (opening_client h)
    = of_clients ∙ ap (λ (g : ManagerState). replicate h.clients (fresh_client h.fast h.protocol g.config)) of_manager in
    rw (c, of_masters, of_backups, of_witnesses, of_manager) refl

-- so many nodes
many : {S : Type 0} (nodes : List (Node S)) (s : S) (n : ℕ) → states nodes ≡ replicate n s → length nodes ≡ n
many {S} nodes s n same = sym (length-map nodes (λ (x : Node S). x.state)) ∙ ap length same ∙ length-replicate n s

-- and they are numbered
pub opening_numbered : (h : Header) (manager : ManagerState) (clients : List (Node ClientState)) (masters : List (Node MasterStage))
    (backups : List (Node BackupState)) (witnesses : List (Node WitnessState))
    → manager ≡ opening_manager (shape_of h)
    → HasNumbers clients → HasNumbers masters → HasNumbers backups → HasNumbers witnesses
    → states masters ≡ map (opening_master (shape_of h)) (numbers_from 1 h.parts)
    → states backups ≡ replicate (h.parts * h.f) (installed_backup 1)
    → states witnesses ≡ replicate (h.parts * h.f) (started_witness h.sets h.ways 1)
    → AreNumbered manager.next clients masters backups witnesses [] h.sets h.ways
opening_numbered h manager clients masters backups witnesses of_manager c m b w of_masters of_backups of_witnesses =
    let long : length masters ≡ h.parts
    = sym (length-map masters (λ (x : Node MasterStage). x.state)) ∙ ap length of_masters ∙ named_length (opening_master (shape_of h)) h.parts in
    record {
      clients_are = c;
      masters_are = m;
      backups_are = b;
      witnesses_are = none_ahead witnesses h.sets h.ways w;
      next_master = ap (λ (g : ManagerState). g.next.master) of_manager ∙ ap (λ (n : ℕ). n + 1) (sym long);
      next_backup = ap (λ (g : ManagerState). g.next.backup) of_manager ∙ ap (λ (n : ℕ). n + 1) (sym (many backups (installed_backup 1) (h.parts * h.f) of_backups));
      next_witness = ap (λ (g : ManagerState). g.next.witness) of_manager ∙ ap (λ (n : ℕ). n + 1) (sym (many witnesses (started_witness h.sets h.ways 1) (h.parts * h.f) of_witnesses));
    }
