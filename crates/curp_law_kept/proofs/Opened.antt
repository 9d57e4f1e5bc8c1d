-- What nodes and messages keep holds at the opening.
use Rattle.std.proofs.Common.{replicate, ◌≡◌, inl, ℕ, zero, suc, ◌*◌, ◌≤◌, [], refl, ap, sym, ◌∙◌, subst, arith, Some}
use Rattle.std.specs.List.{IsDistinct}
use Rattle.std.proofs.lemmas.List.{length-replicate}
use Rattle.curp_base.specs.Words.{At, Each, numbered, numbers_from}
use Rattle.curp_base.proofs.Lists.{at_map, at_replicate, at_replicated, Each-map, at_mapped}
use Rattle.curp_cmd.specs.Node.{master_node}
use Rattle.curp_cmd.specs.declared.node.NodeId.{NodeId}
use Rattle.curp_cmd.specs.declared.node.NodeKind.{NodeKind}
use Rattle.curp_cmd.specs.declared.node.NodeKind.TheVariants as kind
use Rattle.curp_msg.specs.declared.config.PartConfig.{PartConfig}
use Rattle.curp_msg.specs.declared.message.Message.{Message}
use Rattle.curp_msg.specs.declared.script.Header.{Header}
use Rattle.curp_model.specs.Backup.{BackupState, installed_backup}
use Rattle.curp_model.specs.Client.{ClientState}
use Rattle.curp_model.specs.Manager.{Migration, Shape, opening_config, opening_part}
use Rattle.curp_model.specs.Named.{IsBackup, IsMaster, IsWitness}
use Rattle.curp_model.specs.Recovery.{MasterStage}
use Rattle.curp_model.specs.Witness.{WitnessState, started_witness}
use Rattle.curp_model.specs.World.{World, messages, opening, opening_master, shape_of, opening_client}
use Rattle.curp_facts.specs.Entries.{LogOk}
use Rattle.curp_facts.specs.Facts.{AtOpening, ByRecovery, ByReplacement, EntryWas, IsAdoptedNow, IsGiven, Lists, WasAdopted, WasSent, lists_of_part}
use Rattle.curp_facts.specs.Invariant.{Invariant, MigrationOk, PresentOk}
use Rattle.curp_facts.specs.Nodes.{BackupOk, ClientOk, MasterOk, StartedAt, WitnessOk}
use Rattle.curp_facts.specs.Reach.{HasStored}
use Rattle.curp_msg.specs.Script.{IsHeader}
use Rattle.curp_law_kept.proofs.ClientLater.{fresh_knows, fresh_numbers, no_history}
use Rattle.curp_facts.specs.Names.{IsOf}
use Rattle.curp_law_kept.proofs.NumberedLists.{among_each, each_among}
use Rattle.curp_law_kept.proofs.OpenedNames.{opening_names}
use Rattle.curp_base.proofs.Numbered.{numbers_back, place as place_of}

master_named : (node : NodeId) (n : ℕ) → node.kind ≡ kind.Master → n ≡ node.number → master_node n ≡ node
master_named node n its_kind number = ap master_node number ∙ ap (λ (k : NodeKind). record { kind = k; number = node.number }) (sym its_kind)

module _ (h : Header) (its : IsHeader h) where
  abbrev s : Shape
  s = shape_of h

  abbrev start : World
  start = opening h

  -- ---- lists

  no_message : (P : Type 0) (k : ℕ) (m : Message) → At (messages start) k m → P
  unfolding opening
  no_message P k m at = absurd cc

  -- nothing was sent
  unsent : (P : Type 0) (m : Message) → WasSent start m → P
  unsent P m sent = no_message P sent.place m sent.stands

  -- an entry of the opening has epoch and version 1
  entry_first : (k : ℕ) (c : PartConfig) → At (opening_config s).parts k c → (c.epoch ≡ 1) × (c.version ≡ 1)
  entry_first k c at =
      let m = at_mapped (opening_part s) (numbers_from 1 h.parts) k c at in
      (sym (ap (λ (x : PartConfig). x.epoch) m.2), sym (ap (λ (x : PartConfig). x.version) m.2))

  -- lists that were given are of epoch 1
  first_epoch : (l : Lists) → IsGiven start l → l.epoch ≡ 1
  unfolding opening
  first_epoch _ (AtOpening k c at) = (entry_first k c at).0
  first_epoch _ (ByRecovery node o sent) = unsent _ _ sent
  first_epoch _ (ByReplacement old p before sent) = unsent _ _ sent

  adopted_first : (k : ℕ) (c : PartConfig) → At (opening_config s).parts k c → WasAdopted start (lists_of_part c)
  unfolding opening
  adopted_first k c at = record { given = AtOpening k c at; told = inl (entry_first k c at).1 }

  entry_was : (k : ℕ) (c : PartConfig) → At (opening_config s).parts k c → EntryWas start c
  unfolding opening
  entry_was k c at = adopted_first k c at

  entries_were : Each (EntryWas start) (opening_config s).parts
  entries_were = each_among (EntryWas start) (opening_config s).parts (λ c a. entry_was a.place c a.stands)

  present_first : (c : PartConfig) → IsAdoptedNow start c → PresentOk start c
  unfolding opening
  present_first c now =
      let p = place_of (opening_config s).parts c.part c now in
      record { entry = entry_was p.0 c p.2; ready = record { given = AtOpening p.0 c p.2; told = inl (entry_first p.0 c p.2).1 } }

  moving_first : (m : Migration) → start.manager.moving ≡ Some m → MigrationOk start m
  unfolding opening
  moving_first m is = absurd cc

  -- ---- backups and witnesses

  backup_is : (node : NodeId) (b : BackupState) → IsBackup start node b → installed_backup 1 ≡ b
  unfolding opening
  backup_is node b is = let p = place_of start.backups node.number b is.its_state in (at_replicate (h.parts * h.f) (installed_backup 1) p.0 b p.2).1

  backup_first : (l : Lists) → IsGiven start l → (b : BackupState) → installed_backup 1 ≡ b → BackupOk start l b
  backup_first l given b same = subst (BackupOk start l) same (record { installed = λ e some. one some ∙ sym (first_epoch l given); empty = λ none. refl; follows = inl refl })
    where
      one : {e : ℕ} → Some 1 ≡ Some e → e ≡ 1
      one some = cc

  witness_is : (node : NodeId) (x : WitnessState) → IsWitness start node x → started_witness h.sets h.ways 1 ≡ x
  unfolding opening
  witness_is node x is = let p = place_of start.witnesses node.number x is.its_state in (at_replicate (h.parts * h.f) (started_witness h.sets h.ways 1) p.0 x p.2).1

  witness_first : (x : WitnessState) → started_witness h.sets h.ways 1 ≡ x → WitnessOk start x
  unfolding IsDistinct
  witness_first x same = subst (WitnessOk start) same (record { started = λ normal. (1, refl); held = tt; apart = tt })

  started_first : (l : Lists) → IsGiven start l → (x : WitnessState) → started_witness h.sets h.ways 1 ≡ x → StartedAt l x
  started_first l given x same = subst (StartedAt l) same (λ e some. one some ∙ sym (first_epoch l given))
    where
      one : {e : ℕ} → Some 1 ≡ Some e → e ≡ 1
      one some = cc

  -- ---- masters

  -- a backup of the opening is there
  stored_first : (node : NodeId) → IsOf start kind.Backup node → HasStored start 0 node
  unfolding opening
  stored_first node of = record { b = installed_backup 1; is = record { its_kind = of.0; its_state = found node.number of.1.0 (omega (arith, of.1.1, length-replicate (h.parts * h.f) (installed_backup 1))) }; low = omega arith }
    where
      found : (n : ℕ) → 1 ≤ n → n ≤ h.parts * h.f → numbered (replicate (h.parts * h.f) (installed_backup 1)) n ≡ Some (installed_backup 1)
      found zero low high = absurd (omega (arith, low))
      found (suc n) low high = at_replicated (h.parts * h.f) (installed_backup 1) n (omega (arith, high))

  log_first : (part : ℕ) → LogOk start part []
  log_first part = record { is_log = refl; takes = λ j k before after p q less at. absurd cc; gives = λ j k before after p q less at. absurd cc; entries = tt }

  serves_first : (k n : ℕ) → At (numbers_from 1 h.parts) k n → MasterOk start (master_node n) (opening_master s n)
  unfolding opening
  serves_first k n at = record {
    adopted = adopted_first k (opening_part s n) (at_map (opening_part s) (numbers_from 1 h.parts) k n at);
    lo = refl;
    hi = refl;
    log = log_first n;
    acknowledged = Each-map _ _ (opening_part s n).backups (each_among _ (opening_part s n).backups (λ b a. record {
      stored = stored_first b (among_each (IsOf start kind.Backup) (opening_part s n).backups ((opening_names h its).given (lists_of_part (opening_part s n)) (AtOpening k (opening_part s n) (at_map (opening_part s) (numbers_from 1 h.parts) k n at))).backups b a);
      within = omega arith;
      begun = omega arith;
    }));
    prepared = λ version sent. unsent _ _ sent;
    switching = λ x is. absurd cc;
    free = λ index is. absurd cc;
    held = tt;
    queue = tt;
    captures = tt;
  }

  master_first : (node : NodeId) (m : MasterStage) → IsMaster start node m → MasterOk start node m
  unfolding opening
  master_first node m is =
      let p = place_of start.masters node.number m is.its_state in
      let x = at_mapped (opening_master s) (numbers_from 1 h.parts) p.0 m p.2 in
      let number : x.0 ≡ node.number = omega (arith, (numbers_back 1 h.parts p.0 x.0 x.1).0, p.1) in
      let named : master_node x.0 ≡ node = master_named node x.0 is.its_kind number in
      subst (λ (y : NodeId). MasterOk start y m) named (subst (MasterOk start (master_node x.0)) x.2 (serves_first p.0 x.0 x.1))

  -- ---- clients

  client_first : (n : ℕ) (c : ClientState) → numbered start.clients n ≡ Some c → ClientOk start n c
  unfolding opening
  client_first n c at =
      let p = place_of start.clients n c at in
      let same = (at_replicate h.clients (opening_client h) p.0 c p.2).1 in
      subst (ClientOk start n) same (record { numbers = fresh_numbers n h.fast h.protocol (opening_config s); knows = fresh_knows _ (EntryWas start) h.fast h.protocol (opening_config s) entries_were })

  -- ---- all together

  pub opening_keeps : Invariant start
  unfolding opening
  opening_keeps = record {
    masters = master_first;
    backups = λ l given node a b is. backup_first l given b (backup_is node b is);
    witnesses = λ node x is. witness_first x (witness_is node x is);
    started = λ l given node a x is. started_first l given x (witness_is node x is);
    clients = client_first;
    history = no_history;
    completed = λ i id a at. absurd cc;
    reads = λ i j id command a invoked reads at. absurd cc;
    messages = λ k m at. no_message _ k m at;
    present = present_first;
    moving = moving_first;
  }
