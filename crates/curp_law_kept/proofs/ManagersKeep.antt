-- An input to the manager keeps what nodes and messages keep.
use Rattle.std.proofs.Common.{replicate, ◌≡◌, ◌⊎◌, inl, inr, ℕ, zero, suc, ◌+◌, ◌-◌, ◌<◌, List, [], ◌++◌, length, refl, ap, sym, ◌∙◌, subst, arith, append-nil, Option, Some, None}
use Rattle.std.specs.List.{IsDistinct}
use Rattle.curp_base.specs.Words.{At, Each, numbered}
use Rattle.curp_base.proofs.Lists.{at_append_cases, at_replicate, Each-at}
use Rattle.curp_cmd.specs.Node.{manager_node}
use Rattle.curp_cmd.specs.declared.node.NodeId.{NodeId}
use Rattle.curp_cmd.specs.declared.node.NodeKind.TheVariants as kind
use Rattle.curp_msg.specs.Moved.{Moved, says}
use Rattle.curp_msg.specs.declared.body.Body.{Body}
use Rattle.curp_msg.specs.declared.body.Body.TheVariants as body
use Rattle.curp_msg.specs.declared.config.PartConfig.{PartConfig}
use Rattle.curp_msg.specs.declared.machine.Completed.{Completed}
use Rattle.curp_msg.specs.Input.{Input}
use Rattle.curp_msg.specs.declared.message.Message.{Message}
use Rattle.curp_order.specs.Order.{IsHistory}
use Rattle.curp_order.specs.declared.Event.{Event}
use Rattle.curp_order.specs.declared.Event.TheVariants.{Invoke, Complete}
use Rattle.curp_model.specs.Backup.{BackupState, fresh_backup}
use Rattle.curp_model.specs.Client.{ClientState}
use Rattle.curp_model.specs.Manager.{Attempted, ManagerState, Migration, manager_input}
use Rattle.curp_model.specs.Named.{IsBackup, IsMaster, IsWitness}
use Rattle.curp_model.specs.Recovery.{Fresh, MasterStage}
use Rattle.curp_model.specs.Witness.{WitnessState, fresh_witness}
use Rattle.curp_model.specs.World.{World, completion, grown, messages}
use Rattle.curp_facts.specs.ClientNumbers.{ClientNumbersOk}
use Rattle.curp_facts.specs.Facts.{IsAdoptedNow, IsAmong, IsGiven, HasLog, Lists, WasOrdered, WasSent}
use Rattle.curp_facts.specs.Growth.{Grows}
use Rattle.curp_facts.specs.Invariant.{Invariant, MigrationOk, PresentOk}
use Rattle.curp_facts.specs.Nodes.{BackupOk, ClientOk, FreshOk, MasterOk, StartedAt, WitnessOk}
use Rattle.curp_law_kept.specs.Deeds.{IsFor}
use Rattle.curp_law_kept.specs.ManagerEffect.{EntryKeeps, IsOrdered, ManagerEffect, Uttered}
use Rattle.curp_facts.specs.Known.{Known}
use Rattle.curp_law_kept.proofs.Known.{fits, knows_later}
use Rattle.curp_law_kept.proofs.ManagersDo.{manager_does}
use Rattle.curp_law_kept.proofs.ManagersReady.{from_all, given_cases, manager_follows, other_kind, other_sent}
use Rattle.curp_law_kept.proofs.Moved.{messages_say, says_no_more}
use Rattle.curp_facts.specs.Names.{IsOf, Names}
use Rattle.curp_facts.specs.Fits.{sender_kind}
use Rattle.curp_law_kept.proofs.Later.{Later}
use Rattle.curp_law_kept.proofs.NumberedLists.{among_each}
use Rattle.curp_law_kept.proofs.ManagerWorlds.{manager_moved, moved_messages, sent_now}
use Rattle.curp_law_kept.proofs.Entries.{ordered_later}
use Rattle.curp_law_kept.proofs.MastersStay.{master_ok_later}
use Rattle.curp_law_kept.proofs.Nodes.{backup_ok_later, completed_by_later, read_later, witness_ok_later}
use Rattle.curp_law_kept.proofs.Said.{says_later}
use Rattle.curp_law_kept.proofs.Words.{Follows, given_stays, ready_later, sent_later}
use Rattle.curp_base.proofs.Numbered.{number_within, place as place_of}

-- what stands among grown nodes was there, or is fresh and wasn't
grown_cases : {S : Type 0} (xs : List S) (fresh : S) (next n : ℕ) (x : S) → numbered (grown xs fresh next) n ≡ Some x → (numbered xs n ≡ Some x) ⊎ ((fresh ≡ x) × (length xs < n))
grown_cases xs fresh next zero x at = absurd cc
grown_cases xs fresh next (suc n) x at = elim (at_append_cases xs (replicate ((next - 1) - length xs) fresh) n x at) [
  | inl h ↦ inl h
  | inr h ↦ inr ((at_replicate ((next - 1) - length xs) fresh h.0 x h.2).1, omega (arith, h.1))
]

-- ---- nodes by other lists of their master

other_lists : (v : World) (l k : Lists) → k.master ≡ l.master → k.epoch ≡ l.epoch → (b : BackupState) → BackupOk v k b → BackupOk v l b
other_lists v l k master epoch b ok = record {
  installed = λ e some. ok.installed e some ∙ epoch;
  empty = ok.empty;
  follows = elim ok.follows [
    | inl none ↦ inl none
    | inr f ↦ inr (record { its = f.its; its_log = subst (λ (node : NodeId). HasLog v node f.its) master f.its_log; prefix = f.prefix })
  ];
}

no_epoch : {e : ℕ} → None ≡ Some e → ⊥
no_epoch same = cc

-- a backup that was never installed
fresh_backup_ok : (v : World) (l : Lists) → BackupOk v l fresh_backup
fresh_backup_ok v l = record { installed = λ e some. absurd (no_epoch some); empty = λ none. refl; follows = inl refl }

-- a witness that was never started
fresh_witness_ok : (v : World) (sets ways : ℕ) → WitnessOk v (fresh_witness sets ways)
unfolding IsDistinct
fresh_witness_ok v sets ways = record { started = λ normal. absurd cc; held = tt; apart = tt }

module _ {w : World} (known : Known w) (given : Input) (for : IsFor w manager_node given) (adopted : Option Attempted) (events : List Event) (none : events ≡ []) where
  abbrev r : Moved ManagerState
  r = manager_input w.manager given

  abbrev v : World
  v = manager_moved w adopted events r

  does : ManagerEffect w r
  does = manager_does known given for

  sent_is : messages v ≡ messages w ++ r.messages
  sent_is = moved_messages w adopted events r

  module _ (grows : Grows w v) (later : Later w v) (names : Names v) where
    pub follows : Follows w v
    follows = manager_follows known names later r.messages sent_is does.messages grows

    from_manager_all : Each (λ (m : Message). m.from ≡ manager_node) r.messages
    from_manager_all = from_all known names later r.messages sent_is does.messages

    -- ---- nodes

    -- a master that is fresh has said nothing
    fresh_ok : (node : NodeId) → node.kind ≡ kind.Master → length w.masters < node.number → FreshOk v node
    fresh_ok node is new = record {
      unprepared = λ version sent. said_nothing (body.Prepared version) refl sent;
      untold = λ x sent. said_nothing (body.Recovered x) refl sent;
    }
      where
        said_nothing : (b : Body) → sender_kind b ≡ kind.Master → WasSent v (says node manager_node b) → ⊥
        said_nothing b masters sent =
            let was = other_sent known names later r.messages sent_is does.messages (says node manager_node b) sent (other_kind node kind.Master is (λ same. cc)) in
            let of : IsOf w kind.Master node = subst (λ k. IsOf w k node) masters (fits known (says node manager_node b) was).sender in
            omega (arith, new, of.1.1)

    masters_keep : (node : NodeId) (m : MasterStage) → IsMaster v node m → MasterOk v node m
    masters_keep node m is = elim (grown_cases w.masters Fresh r.state.next.master node.number m is.its_state) [
      | inl was ↦ master_ok_later follows known.inv node m (says_no_more w v r.messages sent_is manager_node from_manager_all node (other_kind node kind.Master is.its_kind (λ same. cc)))
          (known.inv.masters node m (record { its_kind = is.its_kind; its_state = was }))
      | inr new ↦ subst (MasterOk v node) new.0 (fresh_ok node is.its_kind new.1)
    ]

    -- lists of the same master, if not these were given before
    home : (l k : Lists) → IsGiven v l → IsGiven w k → k.master ≡ l.master → k.epoch ≡ l.epoch
    home l k gl gk same = ((names.agree k l (given_stays follows gk) gl).by_master same).1

    backups_keep : (l : Lists) → IsGiven v l → (node : NodeId) → IsAmong node l.backups → (b : BackupState) → IsBackup v node b → BackupOk v l b
    backups_keep l given node named b is = elim (grown_cases w.backups fresh_backup r.state.next.backup node.number b is.its_state) [
      | inl was ↦ elim (given_cases known names later r.messages sent_is does.messages l given) [
        | inl before ↦ old l before named was
        | inr new ↦ elim (among_each _ l.backups new.backups_are node named) [
          | inl absent ↦ absurd (absent (is.its_kind, number_within w.backups node.number b was))
          | inr k ↦ other_lists v l k.0 k.2 (home l k.0 given k.1 k.2) b (old k.0 k.1 k.3 was)
        ]
      ]
      | inr new ↦ subst (BackupOk v l) new.0 (fresh_backup_ok v l)
    ]
      where
        old : (k : Lists) → IsGiven w k → IsAmong node k.backups → numbered w.backups node.number ≡ Some b → BackupOk v k b
        old k before among was = backup_ok_later follows k b (known.inv.backups k before node among b (record { its_kind = is.its_kind; its_state = was }))

    witnesses_keep : (node : NodeId) (x : WitnessState) → IsWitness v node x → WitnessOk v x
    witnesses_keep node x is = elim (grown_cases w.witnesses (fresh_witness w.sets w.ways) r.state.next.witness node.number x is.its_state) [
      | inl was ↦ witness_ok_later follows x (known.inv.witnesses node x (record { its_kind = is.its_kind; its_state = was }))
      | inr new ↦ subst (WitnessOk v) new.0 (fresh_witness_ok v w.sets w.ways)
    ]

    started_keep : (l : Lists) → IsGiven v l → (node : NodeId) → IsAmong node l.witnesses → (x : WitnessState) → IsWitness v node x → StartedAt l x
    started_keep l given node named x is = elim (grown_cases w.witnesses (fresh_witness w.sets w.ways) r.state.next.witness node.number x is.its_state) [
      | inl was ↦ elim (given_cases known names later r.messages sent_is does.messages l given) [
        | inl before ↦ known.inv.started l before node named x (record { its_kind = is.its_kind; its_state = was })
        | inr new ↦ elim (among_each _ l.witnesses new.witnesses_are node named) [
          | inl absent ↦ absurd (absent (is.its_kind, number_within w.witnesses node.number x was))
          | inr k ↦ λ epoch some. known.inv.started k.0 k.1 node k.3 x (record { its_kind = is.its_kind; its_state = was }) epoch some ∙ home l k.0 given k.1 k.2
        ]
      ]
      | inr new ↦ subst (StartedAt l) new.0 (λ epoch some. absurd (no_epoch some))
    ]

    -- ---- the manager

    present_keeps : (c : PartConfig) → IsAdoptedNow v c → PresentOk v c
    present_keeps c now =
        let p = place_of r.state.config.parts c.part c now in
        let ok = Each-at (EntryKeeps w) r.state.config.parts does.entries p.0 c p.2 in
        record { entry = (names.top c now).was; ready = ready_later follows ok }

    ordered_keeps : (part : ℕ) (b : Body) → IsOrdered w r.messages part b → WasOrdered v part b
    ordered_keeps part b ordered = elim ordered [
      | inl was ↦ ordered_later follows was
      | inr now ↦ record {
        node = now.0;
        is = record { lists = now.1.lists; given = given_stays follows now.1.given; its_master = now.1.its_master; its_part = now.1.its_part };
        sent = sent_now w v r.messages sent_is now.2;
      }
    ]

    moving_keeps : (m : Migration) → r.state.moving ≡ Some m → MigrationOk v m
    moving_keeps m its =
        let ok = does.moving m its in
        record { ordered = ordered_keeps m.source _ ok.ordered; told = λ p is. let t = ok.told p is in record { node = t.node; told = sent_later follows t.told } }

    -- ---- clients and the history

    same_history : v.history ≡ w.history
    same_history =
        ap (λ (o : Option Completed). (w.history ++ events) ++ completion o) does.idle
        ∙ ap (λ (es : List Event). (w.history ++ es) ++ []) none ∙ append-nil (w.history ++ []) ∙ append-nil w.history

    clients_keep : (n : ℕ) (c : ClientState) → numbered w.clients n ≡ Some c → ClientOk v n c
    clients_keep n c here =
        let ok = known.inv.clients n c here in
        record { numbers = subst (λ (h : List Event). ClientNumbersOk n h c) (sym same_history) ok.numbers; knows = knows_later w v follows n c ok.knows }

    -- all that nodes and messages keep
    pub manager_keeps : Invariant v
    manager_keeps = record {
      masters = masters_keep;
      backups = backups_keep;
      witnesses = witnesses_keep;
      started = started_keep;
      clients = clients_keep;
      history = subst IsHistory (sym same_history) known.inv.history;
      completed = λ i id a at. completed_by_later follows id a (known.inv.completed i id a (subst (λ (h : List Event). At h i (Complete id a)) same_history at));
      reads = λ i j id command a invoked reads at. read_later follows id a (known.inv.reads i j id command a (subst (λ (h : List Event). At h i (Invoke id command)) same_history invoked) reads (subst (λ (h : List Event). At h j (Complete id a)) same_history at));
      messages = messages_say w v r.messages sent_is (λ k m at. says_later follows known.inv k m.from m.to m.body (known.inv.messages k m at))
          (λ j m at. says_later follows known.inv (length (messages w) + j) m.from m.to m.body ((Each-at (Uttered w) r.messages does.messages j m at).says_so (length (messages w) + j)));
      present = present_keeps;
      moving = moving_keeps;
    }
