-- Journals of a header's nodes can be merged, and each is one that the node can have in the header's world.
use Rattle.std.proofs.Common.{◌≡◌, ◌≢◌, ◌⊎◌, inl, inr, ℕ, zero, suc, ◌+◌, ◌≤◌, Bool, false, List, [], ◌∷◌, ◌++◌, length, map, None, refl, ap, sym, ◌∙◌, subst, arith}
use Rattle.std.proofs.lemmas.Bool.{cases_lt}
use Rattle.curp_base.specs.Words.{At, Each}
use Rattle.curp_base.proofs.Lists.{Each-append, Each-at, Each-map, Each-weaker, at_append_cases, at_mapped}
use Rattle.curp_cmd.specs.Node.{backup_node, client_node, manager_node, master_node, witness_node}
use Rattle.curp_cmd.specs.declared.node.NodeId.{NodeId}
use Rattle.curp_cmd.specs.declared.node.NodeKind.{NodeKind}
use Rattle.curp_cmd.specs.declared.node.NodeKind.TheVariants as kind
use Rattle.curp_msg.specs.Moved.{Node}
use Rattle.curp_msg.specs.declared.script.Header.{Header}
use Rattle.curp_msg.specs.declared.script.Step.{Step}
use Rattle.curp_model.specs.Backup.{BackupState, fresh_backup}
use Rattle.curp_model.specs.Client.{ClientState}
use Rattle.curp_model.specs.Recovery.{Fresh, MasterStage}
use Rattle.curp_model.specs.Witness.{WitnessState, fresh_witness}
use Rattle.curp_model.specs.World.{opening}
use Rattle.curp_msg.specs.Limits.{weight_limit}
use Rattle.curp_journal.specs.Journal.{IsJournal, NodeJournal, Stamped}
use Rattle.curp_journal.specs.Turns.{AreApart, Journal, Placed}
use Rattle.curp_law_weave.specs.NodeStates.{ABackup, AClient, AManager, AMaster, AWitness, NodeState, machine_of, opening_of, state_of}
use Rattle.curp_law_weave.specs.Openings.{ComesAs, OpensAs}
use Rattle.curp_law_weave.specs.Run.{IsJournalOf, Legal, RunOf, TakesFirst}
use Rattle.curp_law_weave.proofs.Gives.{backup_journal, client_journal, manager_journal, master_journal, witness_journal, backup_comes, backup_opens, client_opens, manager_opens, master_comes, master_opens, witness_comes, witness_opens}
use Rattle.curp_merge.specs.Merging.{AreJournals, Merged, weight_sent}
use Rattle.curp_merge.proofs.Sums.{weight_of_turns}
use Rattle.curp_client.specs.Machine.{client_machine}
use Rattle.curp_config.specs.Machine.{manager_machine}
use Rattle.curp_nodes.specs.Machines.{backup_machine, master_machine, witness_machine}
use Rattle.curp_gather.specs.Journals.{AreOf, Begins, IsBackupJournal, IsClientJournal, IsMasterJournal, IsScriptOf, IsWitnessJournal, NodesAscend, journal_of, journals_of}
use Rattle.curp_gather.specs.Replays.{AreReplayed, IsMadeAnew}
use Rattle.curp_gather.specs.declared.journals.Journals.{Journals}
use Rattle.curp_gather.proofs.ByMachine.{backup_is, client_is, manager_is, master_is, witness_is}

-- ---- all journals, kind by kind

-- what each kind of journal has, all have
pub of_all : (P : Journal → Type 0) (j : Journals) → P (journal_of j.manager) → Each (λ log. P (journal_of log)) j.clients.items → Each (λ log. P (journal_of log)) j.masters.items
    → Each (λ log. P (journal_of log)) j.backups.items → Each (λ log. P (journal_of log)) j.witnesses.items
    → (k : ℕ) (one : Journal) → At (journals_of j) k one → P one
of_all P j g c m b w k one at = Each-at P (journals_of j) (g, rest) k one at
  where
    rest : Each P (map journal_of j.clients.items ++ (map journal_of j.masters.items ++ (map journal_of j.backups.items ++ map journal_of j.witnesses.items)))
    rest =
        Each-append P _ _ (Each-map P journal_of j.clients.items c)
        (Each-append P _ _ (Each-map P journal_of j.masters.items m)
        (Each-append P _ _ (Each-map P journal_of j.backups.items b) (Each-map P journal_of j.witnesses.items w)))

-- ---- no two are of one node

-- journals of a kind
abbrev OfKind : NodeKind → List Journal → Type 0
OfKind K journals = Each (λ (x : Journal). x.id.kind ≡ K) journals

-- journals of other kinds
abbrev NotOfKind : NodeKind → List Journal → Type 0
NotOfKind K journals = Each (λ (x : Journal). x.id.kind ≢ K) journals

apart_both : (K : NodeKind) (xs ys : List Journal) → AreApart xs → AreApart ys → OfKind K xs → NotOfKind K ys → AreApart (xs ++ ys)
apart_both K xs ys left right here there i k a b at bt same = go (at_append_cases xs ys i a at) (at_append_cases xs ys k b bt)
  where
    differ : (n m : ℕ) (x y : Journal) → At xs n x → At ys m y → x.id ≡ y.id → ⊥
    differ n m x y p q e = Each-at (λ (z : Journal). z.id.kind ≢ K) ys there m y q (ap (λ (id : NodeId). id.kind) (sym e) ∙ Each-at (λ (z : Journal). z.id.kind ≡ K) xs here n x p)

    go : At xs i a ⊎ ((n : ℕ) × (i ≡ length xs + n) × At ys n a) → At xs k b ⊎ ((n : ℕ) × (k ≡ length xs + n) × At ys n b) → i ≡ k
    go (inl p) (inl q) = left i k a b p q same
    go (inl p) (inr q) = absurd (differ i q.0 a b p q.2 same)
    go (inr p) (inl q) = absurd (differ k p.0 b a q p.2 (sym same))
    go (inr p) (inr q) = let e = right p.0 q.0 a b p.2 q.2 same in omega (arith, e, p.1, q.1)

one_apart : (x : Journal) → AreApart (x ∷ [])
one_apart x i k a b at bt same = let p = only i a at in let q = only k b bt in omega (arith, p, q)
  where
    only : (n : ℕ) (y : Journal) → At (x ∷ []) n y → n ≡ 0
    only zero y h = refl
    only (suc n) y h = absurd cc

-- the name of a node of a kind, by its number
abbrev named : {S : Type 0} → NodeKind → NodeJournal (Node S) → Type 0
named K log = log.id ≡ record { kind = K; number = log.opening.number }

kind_apart : {S : Type 0} (K : NodeKind) (logs : List (NodeJournal (Node S))) → Each (named K) logs → NodesAscend logs → AreApart (map journal_of logs)
kind_apart {S} K logs names rise i k a b at bt same =
    let p = at_mapped journal_of logs i a at in
    let q = at_mapped journal_of logs k b bt in
    let x : NodeJournal (Node S) = p.0 in
    let y : NodeJournal (Node S) = q.0 in
    let number : x.opening.number ≡ y.opening.number =
    ap (λ (id : NodeId). id.number) (sym (Each-at (named K) logs names i x p.1) ∙ (ap (λ (z : Journal). z.id) p.2 ∙ (same ∙ (ap (λ (z : Journal). z.id) (sym q.2) ∙ Each-at (named K) logs names k y q.1)))) in
    elim (cases_lt i k) [
      | inl h ↦ let r = rise i k x y p.1 q.1 h in absurd (omega (arith, number, r))
      | inr h ↦ elim (cases_lt k i) [
        | inl g ↦ let r = rise k i y x q.1 p.1 g in absurd (omega (arith, number, r))
        | inr g ↦ omega (arith, g, h)
      ]
    ]

of_kind : {S : Type 0} (K : NodeKind) (logs : List (NodeJournal (Node S))) → Each (named K) logs → OfKind K (map journal_of logs)
of_kind {S} K logs names =
    Each-map (λ (x : Journal). x.id.kind ≡ K) journal_of logs
    (Each-weaker (named K) (λ (log : NodeJournal (Node S)). log.id.kind ≡ K) (λ log e. ap (λ (id : NodeId). id.kind) e) logs names)

other_kind : (K L : NodeKind) → (L ≡ K → ⊥) → (xs : List Journal) → OfKind L xs → NotOfKind K xs
other_kind K L differ xs of = Each-weaker (λ (x : Journal). x.id.kind ≡ L) (λ (x : Journal). x.id.kind ≢ K) (λ x e same. differ (sym e ∙ same)) xs of

module _ (h : Header) (j : Journals) (are : AreOf h j) where
  client_names : Each (named kind.Client) j.clients.items
  client_names = Each-weaker (IsClientJournal h) (named kind.Client) (λ log is. is.its_name) j.clients.items are.clients

  master_names : Each (named kind.Master) j.masters.items
  master_names = Each-weaker (IsMasterJournal h) (named kind.Master) (λ log is. is.its_name) j.masters.items are.masters

  backup_names : Each (named kind.Backup) j.backups.items
  backup_names = Each-weaker (IsBackupJournal h) (named kind.Backup) (λ log is. is.its_name) j.backups.items are.backups

  witness_names : Each (named kind.Witness) j.witnesses.items
  witness_names = Each-weaker (IsWitnessJournal h) (named kind.Witness) (λ log is. is.its_name) j.witnesses.items are.witnesses

  abbrev cs : List Journal
  cs = map journal_of j.clients.items

  abbrev ms : List Journal
  ms = map journal_of j.masters.items

  abbrev bs : List Journal
  bs = map journal_of j.backups.items

  abbrev ws : List Journal
  ws = map journal_of j.witnesses.items

  all_apart : AreApart (journals_of j)
  all_apart =
      let c = of_kind kind.Client j.clients.items client_names in
      let m = of_kind kind.Master j.masters.items master_names in
      let b = of_kind kind.Backup j.backups.items backup_names in
      let w = of_kind kind.Witness j.witnesses.items witness_names in
      let bw = apart_both kind.Backup bs ws (kind_apart kind.Backup j.backups.items backup_names are.backups_rise)
      (kind_apart kind.Witness j.witnesses.items witness_names are.witnesses_rise) b (other_kind kind.Backup kind.Witness (λ e. absurd cc) ws w) in
      let not_master : NotOfKind kind.Master (bs ++ ws) =
      Each-append (λ (x : Journal). x.id.kind ≢ kind.Master) bs ws (other_kind kind.Master kind.Backup (λ e. absurd cc) bs b) (other_kind kind.Master kind.Witness (λ e. absurd cc) ws w) in
      let mbw = apart_both kind.Master ms (bs ++ ws) (kind_apart kind.Master j.masters.items master_names are.masters_rise) bw m not_master in
      let not_client : NotOfKind kind.Client (ms ++ (bs ++ ws)) =
      Each-append (λ (x : Journal). x.id.kind ≢ kind.Client) ms (bs ++ ws) (other_kind kind.Client kind.Master (λ e. absurd cc) ms m)
      (Each-append (λ (x : Journal). x.id.kind ≢ kind.Client) bs ws (other_kind kind.Client kind.Backup (λ e. absurd cc) bs b) (other_kind kind.Client kind.Witness (λ e. absurd cc) ws w)) in
      let cmbw = apart_both kind.Client cs (ms ++ (bs ++ ws)) (kind_apart kind.Client j.clients.items client_names are.clients_rise) mbw c not_client in
      let not_manager : NotOfKind kind.Manager (cs ++ (ms ++ (bs ++ ws))) =
      Each-append (λ (x : Journal). x.id.kind ≢ kind.Manager) cs (ms ++ (bs ++ ws)) (other_kind kind.Manager kind.Client (λ e. absurd cc) cs c)
      (Each-append (λ (x : Journal). x.id.kind ≢ kind.Manager) ms (bs ++ ws) (other_kind kind.Manager kind.Master (λ e. absurd cc) ms m)
      (Each-append (λ (x : Journal). x.id.kind ≢ kind.Manager) bs ws (other_kind kind.Manager kind.Backup (λ e. absurd cc) bs b) (other_kind kind.Manager kind.Witness (λ e. absurd cc) ws w))) in
      apart_both kind.Manager (journal_of j.manager ∷ []) (cs ++ (ms ++ (bs ++ ws))) (one_apart (journal_of j.manager)) cmbw
      (ap (λ (id : NodeId). id.kind) are.manager.its_name, tt) not_manager

  -- ---- they can be merged

  pub ready : AreReplayed j → AreJournals (journals_of j)
  ready replayed = record {
    apart = all_apart;
    one_manager = of_all (λ (x : Journal). x.id.kind ≡ kind.Manager → x.id ≡ manager_node) j (λ e. are.manager.its_name)
        (Each-weaker (named kind.Client) _ (λ log e same. absurd cc) j.clients.items client_names)
        (Each-weaker (named kind.Master) _ (λ log e same. absurd cc) j.masters.items master_names)
        (Each-weaker (named kind.Backup) _ (λ log e same. absurd cc) j.backups.items backup_names)
        (Each-weaker (named kind.Witness) _ (λ log e same. absurd cc) j.witnesses.items witness_names);
    stamped = of_all (λ (x : Journal). Stamped 0 x.items) j replayed.manager.stamped
        (Each-weaker (IsMadeAnew _) _ (λ log r. r.stamped) j.clients.items replayed.clients)
        (Each-weaker (IsMadeAnew _) _ (λ log r. r.stamped) j.masters.items replayed.masters)
        (Each-weaker (IsMadeAnew _) _ (λ log r. r.stamped) j.backups.items replayed.backups)
        (Each-weaker (IsMadeAnew _) _ (λ log r. r.stamped) j.witnesses.items replayed.witnesses);
    own = are.own;
  }

  -- ---- each is one that its node can have

  -- a journal of a node that begins so
  of_node : {S : Type 0} (log : NodeJournal S) (node : NodeId) (x : NodeState) → log.id ≡ node → opening_of h node ≡ x → IsJournal (machine_of node) x log.items
      → (state_of (opening h) node ≢ None) ⊎ TakesFirst log.items → (node ≡ manager_node → log.ended ≡ false) → IsJournalOf h (journal_of log)
  of_node log node x name begins journal there stops = record {
    replay = subst (λ (n : NodeId). IsJournal (machine_of n) (opening_of h n) log.items) (sym name) (rw begins journal);
    begins = subst (λ (n : NodeId). (state_of (opening h) n ≢ None) ⊎ TakesFirst log.items) (sym name) there;
    stops = λ e. stops (sym name ∙ e);
  }

  opens_so : {S : Type 0} (log : NodeJournal S) (node : NodeId) (x : NodeState) → log.id ≡ node → OpensAs h node x → IsJournal (machine_of node) x log.items → (node ≡ manager_node → log.ended ≡ false)
      → IsJournalOf h (journal_of log)
  opens_so log node x name opens journal stops =
      of_node log node x name opens.begins journal (inl (λ none. let there = opens.there in absurd (cc (there, none)))) stops

  comes_so : {S : Type 0} (log : NodeJournal S) (node : NodeId) (x : NodeState) → log.id ≡ node → ComesAs h node x → IsJournal (machine_of node) x log.items → TakesFirst log.items → (node ≡ manager_node → log.ended ≡ false)
      → IsJournalOf h (journal_of log)
  comes_so log node x name comes journal first stops = of_node log node x name comes.begins journal (inr first) stops

  -- a node of another kind isn't the manager
  not_manager : {b : Bool} (node : NodeId) → (node.kind ≡ kind.Manager → ⊥) → node ≡ manager_node → b ≡ false
  not_manager node other e = absurd (other (ap (λ (id : NodeId). id.kind) e))

  of_manager : IsMadeAnew manager_machine j.manager → IsJournalOf h (journal_of j.manager)
  of_manager r =
      opens_so j.manager manager_node (AManager j.manager.opening) are.manager.its_name
      (rw are.manager.begins (manager_opens h)) (manager_journal j.manager.opening j.manager.items (manager_is j.manager.opening j.manager.items r.replay)) (λ e. are.manager.runs)

  of_client : (log : NodeJournal (Node ClientState)) → IsClientJournal h log → IsMadeAnew client_machine log → IsJournalOf h (journal_of log)
  of_client log is r =
      let n = log.opening.number in
      opens_so log (client_node n) (AClient log.opening.state) is.its_name
      (client_opens h n log.opening.state is.begins) (client_journal log.opening log.items (client_is log.opening log.items r.replay)) (not_manager (client_node n) (λ k. absurd cc))

  of_master : (log : NodeJournal (Node MasterStage)) → IsMasterJournal h log → IsMadeAnew master_machine log → IsJournalOf h (journal_of log)
  of_master log is r = go is.begins
    where
      journal : IsJournal (machine_of (master_node log.opening.number)) (AMaster log.opening.state) log.items
      journal = master_journal log.opening log.items (master_is log.opening log.items r.replay)

      go : Begins (opening h).masters Fresh log.opening log.items → IsJournalOf h (journal_of log)
      go (inl p) =
          opens_so log (master_node log.opening.number) (AMaster log.opening.state) is.its_name (master_opens h log.opening.number log.opening.state p) journal (not_manager (master_node log.opening.number) (λ k. absurd cc))
      go (inr p) = comes_so log (master_node log.opening.number) (AMaster log.opening.state) is.its_name (rw p.1 (master_comes h log.opening.number p.0)) journal p.2 (not_manager (master_node log.opening.number) (λ k. absurd cc))

  of_backup : (log : NodeJournal (Node BackupState)) → IsBackupJournal h log → IsMadeAnew backup_machine log → IsJournalOf h (journal_of log)
  of_backup log is r = go is.begins
    where
      journal : IsJournal (machine_of (backup_node log.opening.number)) (ABackup log.opening.state) log.items
      journal = backup_journal log.opening log.items (backup_is log.opening log.items r.replay)

      go : Begins (opening h).backups fresh_backup log.opening log.items → IsJournalOf h (journal_of log)
      go (inl p) =
          opens_so log (backup_node log.opening.number) (ABackup log.opening.state) is.its_name (backup_opens h log.opening.number log.opening.state p) journal (not_manager (backup_node log.opening.number) (λ k. absurd cc))
      go (inr p) = comes_so log (backup_node log.opening.number) (ABackup log.opening.state) is.its_name (rw p.1 (backup_comes h log.opening.number p.0)) journal p.2 (not_manager (backup_node log.opening.number) (λ k. absurd cc))

  of_witness : (log : NodeJournal (Node WitnessState)) → IsWitnessJournal h log → IsMadeAnew witness_machine log → IsJournalOf h (journal_of log)
  of_witness log is r = go is.begins
    where
      journal : IsJournal (machine_of (witness_node log.opening.number)) (AWitness log.opening.state) log.items
      journal = witness_journal log.opening log.items (witness_is log.opening log.items r.replay)

      go : Begins (opening h).witnesses (fresh_witness h.sets h.ways) log.opening log.items → IsJournalOf h (journal_of log)
      go (inl p) =
          opens_so log (witness_node log.opening.number) (AWitness log.opening.state) is.its_name (witness_opens h log.opening.number log.opening.state p) journal (not_manager (witness_node log.opening.number) (λ k. absurd cc))
      go (inr p) = comes_so log (witness_node log.opening.number) (AWitness log.opening.state) is.its_name (rw p.1 (witness_comes h log.opening.number p.0)) journal p.2 (not_manager (witness_node log.opening.number) (λ k. absurd cc))

  -- two things that each has
  both : {A : Type 0} (P Q R : A → Type 0) → ((x : A) → P x → Q x → R x) → (xs : List A) → Each P xs → Each Q xs → Each R xs
  both P Q R f [] p q = tt
  both P Q R f (x ∷ xs) p q = (f x p.0 q.0, both P Q R f xs p.1 q.1)

  journals_are : AreReplayed j → (k : ℕ) (one : Journal) → At (journals_of j) k one → IsJournalOf h one
  journals_are r = of_all (IsJournalOf h) j (of_manager r.manager)
      (both _ _ _ of_client j.clients.items are.clients r.clients)
      (both _ _ _ of_master j.masters.items are.masters r.masters)
      (both _ _ _ of_backup j.backups.items are.backups r.backups)
      (both _ _ _ of_witness j.witnesses.items are.witnesses r.witnesses)

  -- ---- what they are merged into

  pub scripted : ((journals : List Journal) (g : Header) (ss : List Step) (placed : List Placed) → Legal journals g ss placed → RunOf journals g ss placed)
      → AreReplayed j → (ss : List Step) → weight_sent (journals_of j) ≤ weight_limit → Merged (journals_of j) ss → IsScriptOf h (journals_of j) ss
  scripted law r ss light merged = record {
    placed = merged.placed;
    run = law (journals_of j) h ss merged.placed (record {
      header = are.header;
      apart = all_apart;
      turns = merged.is.turns;
      journals_are = journals_are r;
      light = (let e = weight_of_turns (journals_of j) merged.placed all_apart merged.is.turns in omega (arith, e, light));
      legal = merged.is.legal;
    });
    in_order = merged.is.in_order;
    names = merged.is.names;
  }
