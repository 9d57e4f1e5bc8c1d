-- What each step of any world leaves of each node, and which messages it sends.
use Rattle.std.proofs.Common.{◌≡◌, ◌⊎◌, inl, inr, ℕ, zero, suc, ◌-◌, List, length, replicate, slice_get, Option, Some, None, refl, sym, ◌∙◌, subst}
use Rattle.curp_base.specs.Words.{At, numbered}
use Rattle.curp_base.proofs.Lists.{at_append, at_append_cases, at_replicate}
use Rattle.curp_cmd.specs.Node.{backup_node, client_node, master_node, witness_node}
use Rattle.curp_cmd.specs.declared.node.NodeKind.{NodeKind}
use Rattle.curp_cmd.specs.declared.node.NodeKind.TheVariants as kind
use Rattle.curp_msg.specs.Moved.{Moved, quiet, within}
use Rattle.curp_msg.specs.Input.{Input}
use Rattle.curp_msg.specs.declared.message.Message.{Message}
use Rattle.curp_msg.specs.declared.outcome.StepResult.{StepResult}
use Rattle.curp_msg.specs.declared.outcome.StepResult.TheVariants as result
use Rattle.curp_msg.specs.declared.script.Step.{Step}
use Rattle.curp_order.specs.declared.Event.{Event}
use Rattle.curp_model.specs.Backup.{BackupState, backup_input, fresh_backup}
use Rattle.curp_model.specs.Client.{ClientState, client_input}
use Rattle.curp_model.specs.Manager.{adoption, manager_input}
use Rattle.curp_model.specs.Recovery.{MasterStage, Fresh, master_input}
use Rattle.curp_model.specs.Witness.{WitnessState, fresh_witness, witness_input}
use Rattle.curp_model.specs.World.{Deed, Nothing, Gives, Stops, World, deed_of, effect, events_of, grown, kept, messages, moves_kind, moves_one, result_of, step, steps_by, with_backup, with_client, with_manager, with_master, with_witness}
use Rattle.curp_facts.specs.Facts.{IsAmong, WasSent}
use Rattle.curp_law_kept.specs.After.{After, BackupAfter, BackupMoves, BackupNew, BackupStays, ByBackup, ByClient, ByManager, ByMaster, ByWitness, ClientAfter, ClientMoves, ClientStays, ManagerAfter, ManagerMoves, ManagerStays, MasterAfter, MasterMoves, MasterNew, MasterStays, MessageAfter, SentBefore, WitnessAfter, WitnessMoves, WitnessNew, WitnessStays}
use Rattle.curp_law_kept.specs.Deeds.{Gave, IsMeant}
use Rattle.curp_law_kept.proofs.Deeds.{deed_meant, done_taken}
use Rattle.curp_base.proofs.Numbered.{numbered_set_cases}
use Rattle.curp_model.proofs.Batches.{all_of-kept}

-- what has a number among nodes to which fresh ones came was there, or is fresh
grown_cases : {S : Type 0} (xs : List S) (fresh : S) (next n : ℕ) (y : S) → numbered (grown xs fresh next) n ≡ Some y → (numbered xs n ≡ Some y) ⊎ ((numbered xs n ≡ None) × (y ≡ fresh))
grown_cases xs fresh next zero y here = absurd cc
grown_cases {S} xs fresh next (suc k) y here = go (slice_get xs k) refl
  where
    one : {a b : S} → Some a ≡ Some b → a ≡ b
    one e = cc

    two : (o : Option S) → o ≡ None → o ≡ Some y → ⊥
    two o a b = cc

    go : (o : Option S) → slice_get xs k ≡ o → (slice_get xs k ≡ Some y) ⊎ ((slice_get xs k ≡ None) × (y ≡ fresh))
    go (Some z) is = inl (subst (λ (x : S). slice_get xs k ≡ Some x) (one (sym (at_append xs (replicate ((next - 1) - length xs) fresh) k z is) ∙ here)) is)
    go None is = inr (
      is,
      elim (at_append_cases xs (replicate ((next - 1) - length xs) fresh) k y here) [
        | inl old ↦ absurd (two (slice_get xs k) is old)
        | inr new ↦ sym (at_replicate _ fresh new.0 y new.2).1
      ],
    )

module _ (w : World) (s : Step) where
  -- what a move leaves of the nodes, and what it sends
  record Leaves (moved : Moved World) : Type 0 where
    clients : (n : ℕ) (c : ClientState) → numbered moved.state.clients n ≡ Some c → ClientAfter w s n c
    masters : (n : ℕ) (m : MasterStage) → numbered moved.state.masters n ≡ Some m → MasterAfter w s n m
    backups : (n : ℕ) (b : BackupState) → numbered moved.state.backups n ≡ Some b → BackupAfter w s n b
    witnesses : (n : ℕ) (x : WitnessState) → numbered moved.state.witnesses n ≡ Some x → WitnessAfter w s n x
    manager : ManagerAfter w s moved.state.manager
    sends : (m : Message) → IsAmong m moved.messages → MessageAfter w s m

  rests : Leaves (quiet w)
  rests = record {
    clients = λ n c here. ClientStays here;
    masters = λ n m here. MasterStays here;
    backups = λ n b here. BackupStays here;
    witnesses = λ n x here. WitnessStays here;
    manager = ManagerStays refl;
    sends = λ m a. absurd (cc (a.stands));
  }

  client_gets : (n : ℕ) (given : Input) → Gave w s (client_node n) given → (o : Option ClientState) → numbered w.clients n ≡ o
      → (moves_one w (λ c. within (with_client w n) (client_input n c given)) o).refused ≡ 0 → Leaves (moves_one w (λ c. within (with_client w n) (client_input n c given)) o)
  client_gets n given gave None is taken = rests
  client_gets n given gave (Some c) is taken = record {
    clients = λ k d here. elim (numbered_set_cases w.clients n c (client_input n c given).state is k d here) [
      | inl o ↦ ClientStays o.1
      | inr o ↦ subst (λ (i : ℕ). ClientAfter w s i d) (sym o.0) (ClientMoves c given is gave taken (sym o.1))
    ];
    masters = λ k m here. MasterStays here;
    backups = λ k b here. BackupStays here;
    witnesses = λ k x here. WitnessStays here;
    manager = ManagerStays refl;
    sends = λ m a. ByClient n c given is gave taken a;
  }

  master_gets : (n : ℕ) (given : Input) → Gave w s (master_node n) given → (o : Option MasterStage) → numbered w.masters n ≡ o → Leaves (moves_one w (λ m. within (with_master w n given m) (master_input n m given)) o)
  master_gets n given gave None is = rests
  master_gets n given gave (Some m) is = record {
    clients = λ k c here. ClientStays here;
    masters = λ k d here. elim (numbered_set_cases w.masters n m (master_input n m given).state is k d here) [
      | inl o ↦ MasterStays o.1
      | inr o ↦ subst (λ (i : ℕ). MasterAfter w s i d) (sym o.0) (MasterMoves m given is gave (sym o.1))
    ];
    backups = λ k b here. BackupStays here;
    witnesses = λ k x here. WitnessStays here;
    manager = ManagerStays refl;
    sends = λ x a. ByMaster n m given is gave a;
  }

  backup_gets : (n : ℕ) (given : Input) → Gave w s (backup_node n) given → (o : Option BackupState) → numbered w.backups n ≡ o → Leaves (moves_one w (λ b. within (with_backup w n) (backup_input n b given)) o)
  backup_gets n given gave None is = rests
  backup_gets n given gave (Some b) is = record {
    clients = λ k c here. ClientStays here;
    masters = λ k m here. MasterStays here;
    backups = λ k d here. elim (numbered_set_cases w.backups n b (backup_input n b given).state is k d here) [
      | inl o ↦ BackupStays o.1
      | inr o ↦ subst (λ (i : ℕ). BackupAfter w s i d) (sym o.0) (BackupMoves b given is gave (sym o.1))
    ];
    witnesses = λ k x here. WitnessStays here;
    manager = ManagerStays refl;
    sends = λ x a. ByBackup n b given is gave a;
  }

  witness_gets : (n : ℕ) (given : Input) → Gave w s (witness_node n) given → (o : Option WitnessState) → numbered w.witnesses n ≡ o → Leaves (moves_one w (λ x. within (with_witness w n) (witness_input n x given)) o)
  witness_gets n given gave None is = rests
  witness_gets n given gave (Some x) is = record {
    clients = λ k c here. ClientStays here;
    masters = λ k m here. MasterStays here;
    backups = λ k b here. BackupStays here;
    witnesses = λ k d here. elim (numbered_set_cases w.witnesses n x (witness_input n x given).state is k d here) [
      | inl o ↦ WitnessStays o.1
      | inr o ↦ subst (λ (i : ℕ). WitnessAfter w s i d) (sym o.0) (WitnessMoves x given is gave (sym o.1))
    ];
    manager = ManagerStays refl;
    sends = λ m a. ByWitness n x given is gave a;
  }

  manager_gets : (n : ℕ) (given : Input) → Gave w s (record { kind = kind.Manager; number = n }) given → Leaves (within (with_manager w (adoption w.manager given)) (manager_input w.manager given))
  manager_gets n given gave = record {
    clients = λ k c here. ClientStays here;
    masters = λ k m here. elim (grown_cases w.masters Fresh _ k m here) [ inl old ↦ MasterStays old | inr new ↦ MasterNew new.0 new.1 ];
    backups = λ k b here. elim (grown_cases w.backups fresh_backup _ k b here) [ inl old ↦ BackupStays old | inr new ↦ BackupNew new.0 new.1 ];
    witnesses = λ k x here. elim (grown_cases w.witnesses (fresh_witness w.sets w.ways) _ k x here) [ inl old ↦ WitnessStays old | inr new ↦ WitnessNew new.0 new.1 ];
    manager = ManagerMoves n given gave refl;
    sends = λ m a. ByManager n given gave a;
  }

  node_gets : (k : NodeKind) (n : ℕ) (given : Input) → Gave w s (record { kind = k; number = n }) given → (moves_kind w k n given).refused ≡ 0 → Leaves (moves_kind w k n given)
  node_gets kind.Manager n given gave taken = manager_gets n given gave
  node_gets kind.Client n given gave taken = client_gets n given gave (numbered w.clients n) refl taken
  node_gets kind.Master n given gave taken = master_gets n given gave (numbered w.masters n) refl
  node_gets kind.Backup n given gave taken = backup_gets n given gave (numbered w.backups n) refl
  node_gets kind.Witness n given gave taken = witness_gets n given gave (numbered w.witnesses n) refl

  deed_leaves : (d : Deed) → deed_of w s ≡ d → IsMeant w d → result_of w s ≡ result.Done → (effect w d).refused ≡ 0 → Leaves (effect w d)
  deed_leaves Nothing is meant made taken = rests
  deed_leaves (Gives to given) is meant made taken = node_gets to.kind to.number given (record { deed = is; meant = meant; made = made; taken = done_taken w s made }) taken
  deed_leaves (Stops node) is meant made taken = record {
    clients = λ n c here. ClientStays here;
    masters = λ n m here. MasterStays here;
    backups = λ n b here. BackupStays here;
    witnesses = λ n x here. WitnessStays here;
    manager = ManagerStays refl;
    sends = λ m a. absurd (cc (a.stands));
  }

  kept_after : (events : List Event) (moved : Moved World) → Leaves moved → After w s (kept w events moved).world
  kept_after events moved l = record { clients = l.clients; masters = l.masters; backups = l.backups; witnesses = l.witnesses; manager = l.manager; messages = sorts }
    where
      sorts : (m : Message) → WasSent (kept w events moved).world m → MessageAfter w s m
      sorts m sent = elim (at_append_cases (messages w) moved.messages sent.place m (subst (λ (xs : List Message). At xs sent.place m) (all_of-kept w.sent moved.messages) sent.stands)) [
        | inl old ↦ SentBefore (record { place = sent.place; stands = old })
        | inr new ↦ l.sends m (record { place = new.0; stands = new.2 })
      ]

  stays : After w s w
  stays = record {
    clients = λ n c here. ClientStays here;
    masters = λ n m here. MasterStays here;
    backups = λ n b here. BackupStays here;
    witnesses = λ n x here. WitnessStays here;
    manager = ManagerStays refl;
    messages = λ m sent. SentBefore sent;
  }

  by_result : (r : StepResult) → result_of w s ≡ r → After w s (steps_by w (deed_of w s) r).world
  by_result result.Done is = kept_after (events_of w (deed_of w s)) (effect w (deed_of w s)) (deed_leaves (deed_of w s) refl (deed_meant w s) is (done_taken w s is))
  by_result result.NoMessage is = stays
  by_result result.NoNode is = stays
  by_result result.Manager is = stays
  by_result result.Gone is = stays
  by_result (result.Full weight) is = stays
  by_result (result.Refused number) is = stays

  -- a step gives at most one node an input, which alone moves and sends
  pub step_after : After w s (step w s).world
  unfolding step
  step_after = by_result (result_of w s) refl
