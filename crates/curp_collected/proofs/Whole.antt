-- The journals of all kinds together.
use Rattle.std.specs.Prelude.{◌≡◌, ℕ, ◌+◌, List, [], ◌∷◌, ◌++◌, length, map, refl}
use Rattle.std.proofs.Common.{inl, inr, sym, ◌∙◌, subst}
use Rattle.curp_base.specs.Words.{At, Each}
use Rattle.curp_base.proofs.Lists.{Each-append, Each-at, Each-map, at_append, at_append_right, at_map, at_mapped}
use Rattle.curp_cmd.specs.declared.node.NodeId.{NodeId}
use Rattle.curp_cmd.specs.declared.node.NodeKind.{NodeKind}
use Rattle.curp_cmd.specs.declared.node.NodeKind.TheVariants as kinds
use Rattle.curp_items.specs.Items.{IsNodeName}
use Rattle.curp_msg.specs.declared.script.Header.{Header}
use Rattle.curp_journal.specs.Journal.{NodeJournal}
use Rattle.curp_client.specs.Machine.{client_machine}
use Rattle.curp_config.specs.Machine.{manager_machine}
use Rattle.curp_nodes.specs.Machines.{backup_machine, master_machine, witness_machine}
use Rattle.curp_journal.specs.Turns.{IsKnown, Journal}
use Rattle.curp_gather.specs.Journals.{IsBackupJournal, IsClientJournal, IsMasterJournal, IsWitnessJournal, journal_of, journals_of}
use Rattle.curp_gather.specs.declared.journals.Journals.{Journals}
use Rattle.curp_anew.specs.Opening.{AllOwn}
use Rattle.curp_collected.specs.Collected.{AreCollected, IsCollected}
use Rattle.curp_collected.specs.Files.{AreOfHeader, HasTitleAt, IsOfHeader, contents_of}
use Rattle.curp_collected.specs.Kinds.{AreOfKind, IsAmong, IsManagerOf, IsReadFor}
use Rattle.curp_collected.specs.declared.files.File.{File}
use Rattle.curp_collected.specs.declared.files.Files.{Files}
use Rattle.curp_collected.proofs.Names.{the_manager}
use Rattle.curp_collected.proofs.Finding.{read_for, title_for, titled_at}

-- what came to a journal's node is its own
abbrev HasOwn : Journal → Type 0
HasOwn j = AllOwn j.id j.items

-- ---- a node with one of the journals of a kind has one of all

known : {N : Type 0} (logs : List (NodeJournal N)) (node : NodeId) → IsAmong logs node → IsKnown (map journal_of logs) node
known logs node is = record { place = is.place; journal = journal_of is.log; stands = at_map journal_of logs is.place is.log is.stands; its_name = is.its_name }

left : (xs ys : List Journal) (node : NodeId) → IsKnown xs node → IsKnown (xs ++ ys) node
left xs ys node is = record { place = is.place; journal = is.journal; stands = at_append xs ys is.place is.journal is.stands; its_name = is.its_name }

right : (xs ys : List Journal) (node : NodeId) → IsKnown ys node → IsKnown (xs ++ ys) node
right xs ys node is = record {
  place = length xs + is.place;
  journal = is.journal;
  stands = at_append_right xs ys is.place (length xs + is.place) is.journal refl is.stands;
  its_name = is.its_name;
}

module _ (j : Journals) where
  abbrev of_clients : List Journal
  of_clients = map journal_of j.clients.items

  abbrev of_masters : List Journal
  of_masters = map journal_of j.masters.items

  abbrev of_backups : List Journal
  of_backups = map journal_of j.backups.items

  abbrev of_witnesses : List Journal
  of_witnesses = map journal_of j.witnesses.items

  abbrev of_manager : List Journal
  of_manager = journal_of j.manager ∷ []

  known_client : (node : NodeId) → IsAmong j.clients.items node → IsKnown (journals_of j) node
  known_client node is = right of_manager (of_clients ++ (of_masters ++ (of_backups ++ of_witnesses))) node
      (left of_clients (of_masters ++ (of_backups ++ of_witnesses)) node (known j.clients.items node is))

  known_master : (node : NodeId) → IsAmong j.masters.items node → IsKnown (journals_of j) node
  known_master node is = right of_manager (of_clients ++ (of_masters ++ (of_backups ++ of_witnesses))) node
      (right of_clients (of_masters ++ (of_backups ++ of_witnesses)) node
      (left of_masters (of_backups ++ of_witnesses) node (known j.masters.items node is)))

  known_backup : (node : NodeId) → IsAmong j.backups.items node → IsKnown (journals_of j) node
  known_backup node is = right of_manager (of_clients ++ (of_masters ++ (of_backups ++ of_witnesses))) node
      (right of_clients (of_masters ++ (of_backups ++ of_witnesses)) node
      (right of_masters (of_backups ++ of_witnesses) node
      (left of_backups of_witnesses node (known j.backups.items node is))))

  known_witness : (node : NodeId) → IsAmong j.witnesses.items node → IsKnown (journals_of j) node
  known_witness node is = right of_manager (of_clients ++ (of_masters ++ (of_backups ++ of_witnesses))) node
      (right of_clients (of_masters ++ (of_backups ++ of_witnesses)) node
      (right of_masters (of_backups ++ of_witnesses) node
      (right of_backups of_witnesses node (known j.witnesses.items node is))))

-- ---- all of them

module _ (files : Files) (are : AreOfHeader files) (j : Journals)
    (manager : IsManagerOf (contents_of files.each.items) files.until files.header j.manager)
    (clients : AreOfKind kinds.Client client_machine (IsClientJournal files.header) (contents_of files.each.items) files.until files.header j.clients.items)
    (masters : AreOfKind kinds.Master master_machine (IsMasterJournal files.header) (contents_of files.each.items) files.until files.header j.masters.items)
    (backups : AreOfKind kinds.Backup backup_machine (IsBackupJournal files.header) (contents_of files.each.items) files.until files.header j.backups.items)
    (witnesses : AreOfKind kinds.Witness witness_machine (IsWitnessJournal files.header) (contents_of files.each.items) files.until files.header j.witnesses.items) where
  abbrev contents : List (List ℕ)
  contents = contents_of files.each.items

  collected_by : {N : Type 0} (logs : List (NodeJournal N)) (file : ℕ) (node : NodeId) → ((n : NodeId) → IsAmong logs n → IsKnown (journals_of j) n)
      → IsReadFor contents files.until files.header logs file node → IsCollected (journals_of j) contents files.until files.header file
  collected_by logs file node leads is = record {
    node = node;
    inputs = is.inputs;
    stands = is.stands;
    there = elim is.there [ inl one ↦ inl (leads node one) | inr none ↦ inr none ];
  }

  of_the_manager : (file : ℕ) (node : NodeId) → node ≡ j.manager.id → HasTitleAt contents file (title_for files.header node) → IsCollected (journals_of j) contents files.until files.header file
  of_the_manager file node same has =
      let read = read_for manager_machine files are j.manager manager.its file (subst (λ n. HasTitleAt contents file (title_for files.header n)) same has) in
      record { node = j.manager.id; inputs = read.0; stands = read.1; there = inl (record { place = 0; journal = journal_of j.manager; stands = refl; its_name = refl }) }

  by_kind : (kind : NodeKind) (file : ℕ) (node : NodeId) → node.kind ≡ kind → IsNodeName node → HasTitleAt contents file (title_for files.header node)
      → IsCollected (journals_of j) contents files.until files.header file
  by_kind kinds.Manager file node of named has = of_the_manager file node (the_manager node of named ∙ sym manager.journal.its_name) has
  by_kind kinds.Client file node of named has = collected_by j.clients.items file node (known_client j) (clients.whole file node of has)
  by_kind kinds.Master file node of named has = collected_by j.masters.items file node (known_master j) (masters.whole file node of has)
  by_kind kinds.Backup file node of named has = collected_by j.backups.items file node (known_backup j) (backups.whole file node of has)
  by_kind kinds.Witness file node of named has = collected_by j.witnesses.items file node (known_witness j) (witnesses.whole file node of has)

  whole : (file : ℕ) (content : List ℕ) → At contents file content → IsCollected (journals_of j) contents files.until files.header file
  whole file content at =
      let found = at_mapped (λ (f : File). f.content.now) files.each.items file content at in
      let is = Each-at (IsOfHeader files.header) files.each.items are.each file found.0 found.1 in
      let node = found.0.title.node in
      by_kind node.kind file node refl is.read.is.node
      (subst (λ (h : Header). HasTitleAt contents file (title_for h node)) is.same (titled_at files.each.items file found.0 found.1 is.read))

  all_own : Each HasOwn (journals_of j)
  all_own = (
    manager.own,
    Each-append HasOwn (of_clients j) _ (Each-map HasOwn journal_of j.clients.items clients.own)
        (Each-append HasOwn (of_masters j) _ (Each-map HasOwn journal_of j.masters.items masters.own)
        (Each-append HasOwn (of_backups j) _ (Each-map HasOwn journal_of j.backups.items backups.own)
        (Each-map HasOwn journal_of j.witnesses.items witnesses.own))),
  )

  pub collected : AreCollected contents files.until files.header j
  collected = record {
    are = record {
      header = are.header;
      manager = manager.journal;
      clients = clients.each;
      masters = masters.each;
      backups = backups.each;
      witnesses = witnesses.each;
      clients_rise = clients.rise;
      masters_rise = masters.rise;
      backups_rise = backups.rise;
      witnesses_rise = witnesses.rise;
      own = λ k one t item at. Each-at HasOwn (journals_of j) all_own k one at t item;
    };
    manager = manager.its;
    clients = clients.its;
    masters = masters.its;
    backups = backups.its;
    witnesses = witnesses.its;
    whole = whole;
  }
