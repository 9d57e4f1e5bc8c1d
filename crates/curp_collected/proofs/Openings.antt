-- The nodes of a header's world begin, and those that files are of.
use Rattle.std.specs.Prelude.{◌≡◌, ◌≤◌, ◌<◌, ◌^◌, ℕ, ◌+◌, false, List, [], ◌∷◌, length, Option, Some, refl, ⊤}
use Rattle.std.proofs.Common.{inl, inr, sym, ◌∙◌, ap, subst, arith}
use Rattle.curp_base.specs.Words.{Each, numbered}
use Rattle.curp_base.proofs.Lists.{Each-weaker}
use Rattle.curp_cmd.specs.Node.{manager_node, same_kind}
use Rattle.curp_cmd.specs.declared.node.NodeKind.{NodeKind}
use Rattle.curp_cmd.specs.declared.node.NodeKind.TheVariants as kinds
use Rattle.curp_msg.specs.Moved.{Node}
use Rattle.curp_msg.specs.Script.{IsHeader}
use Rattle.curp_msg.specs.declared.script.Header.{Header}
use Rattle.curp_model.specs.Client.{ClientState}
use Rattle.curp_model.specs.Manager.{ManagerState}
use Rattle.curp_model.specs.Recovery.{MasterStage}
use Rattle.curp_model.specs.World.{opening, opening_client}
use Rattle.curp_journal.specs.Journal.{NodeJournal}
use Rattle.curp_client.specs.Machine.{client_machine}
use Rattle.curp_config.specs.Machine.{manager_machine}
use Rattle.curp_nodes.specs.Nodes.{states}
use Rattle.curp_gather.specs.Journals.{IsClientJournal}
use Rattle.curp_collected.proofs.Counts.{client_count, long_states, master_count}
use Rattle.curp_collected.specs.Files.{AreOfHeader, IsOfHeader, contents_of}
use Rattle.curp_collected.specs.Kinds.{AreBegun, AreOfKind, AreThere, BeginsBy, HasLog, HaveLogs, IsLogOf, IsManagerOf, numbered_from}
use Rattle.curp_collected.specs.declared.beginning.Beginning.{Beginning}
use Rattle.curp_journal.specs.declared.origin.Origin.TheVariants.{Opening}
use Rattle.curp_collected.specs.declared.files.File.{File}
use Rattle.curp_collected.specs.declared.files.Files.{Files}
use Rattle.curp_collected.proofs.Begun.{SoFar, begin_end, begin_there, named}
use Rattle.curp_collected.proofs.Logs.{both_hold, logs_each, of_kind}
use Rattle.curp_collected.proofs.Names.{are_counted}

all_opening : {N : Type 0} (kind : NodeKind) (n : ℕ) (nodes : List N) → Each (λ (b : Beginning N). b.origin ≡ Opening) (numbered_from kind n nodes)
all_opening kind n [] = tt
all_opening kind n (x ∷ nodes) = (refl, all_opening kind (n + 1) nodes)

module _ (files : Files) (are : AreOfHeader files) where
  -- the nodes that are there before any step
  pub opened : {S : Type 0} (kind : NodeKind) (there : List S) (fresh : S) (last : ℕ) (begun : List (Beginning (Node S))) → same_kind kind kinds.Manager ≡ false
      → last ≡ length there → AreThere kind there begun → SoFar kind there fresh files.each.items last begun
  opened kind there fresh last begun other many is =
      begin_there kind there fresh files.each.items last begun many (are_counted kind other files.header files.each.items are.each) is

  -- all clients are
  pub clients_begun : (begun : List (Beginning (Node ClientState))) → AreThere kinds.Client (opening files.header).clients begun
      → AreBegun kinds.Client (opening files.header).clients (opening_client files.header) files.each.items begun
  clients_begun begun is =
      let h = files.header in
      let last = h.clients in
      let there = (opening h).clients in
      begin_end kinds.Client there (opening_client h) files.each.items last begun (opened kinds.Client there (opening_client h) last begun refl (sym (client_count h)) is)
      (Each-weaker (IsOfHeader h) (λ (f : File). f.title.node.kind ≡ kinds.Client → f.title.node.number ≤ last) (λ f of. of.possible) files.each.items are.each)

  -- the journals of the clients, each of which is there before any step
  pub clients_of : (nodes : List (Node ClientState)) (begun : List (Beginning (Node ClientState))) → begun ≡ numbered_from kinds.Client 1 nodes → AreThere kinds.Client (opening files.header).clients begun
      → (logs : List (NodeJournal (Node ClientState))) → HaveLogs client_machine (contents_of files.each.items) files.until files.header begun logs
      → AreOfKind kinds.Client client_machine (IsClientJournal files.header) (contents_of files.each.items) files.until files.header logs
  clients_of nodes begun begun_are there logs have =
      let h = files.header in
      let contents = contents_of files.each.items in
      let clients = (opening h).clients in
      let fresh = opening_client h in
      let are_begun = clients_begun begun there in
      let by_kind = of_kind kinds.Client clients fresh client_machine (λ (log : NodeJournal (Node ClientState)). ⊤) files are (λ log name begins. tt) begun logs are_begun have in
      record {
        each = logs_each client_machine contents files.until h (λ (b : Beginning (Node ClientState)). BeginsBy kinds.Client clients fresh b × (b.origin ≡ Opening)) (IsClientJournal h) client_fits begun logs
            (both_hold (BeginsBy kinds.Client clients fresh) (λ (b : Beginning (Node ClientState)). b.origin ≡ Opening) begun are_begun.each
            (subst (Each (λ (b : Beginning (Node ClientState)). b.origin ≡ Opening)) (sym begun_are) (all_opening kinds.Client 1 nodes))) have;
        rise = by_kind.rise;
        its = by_kind.its;
        own = by_kind.own;
        whole = by_kind.whole;
      }
    where
      client_fits : (b : Beginning (Node ClientState)) (log : NodeJournal (Node ClientState)) → BeginsBy kinds.Client (opening files.header).clients (opening_client files.header) b × (b.origin ≡ Opening)
          → IsLogOf client_machine (contents_of files.each.items) files.until files.header b log → IsClientJournal files.header log
      client_fits b log both is = record {
        its_name = is.its_name ∙ both.0.its_name ∙ ap (λ (x : Node ClientState). named kinds.Client x.number) (sym is.begins);
        begins = elim both.0.begins [
          | inl here ↦ subst (λ (x : Node ClientState). numbered (opening files.header).clients x.number ≡ Some x.state) (sym is.begins) here
          | inr new ↦ absurd (cc (new.2, both.1))
        ];
      }

-- the manager's journal
pub manager_log : (contents : List (List ℕ)) (until : Option ℕ) (h : Header) (node : ManagerState) (log : NodeJournal ManagerState) → node ≡ (opening h).manager
    → HasLog manager_machine contents until h (record { id = manager_node; origin = Opening; node = node }) (log ∷ []) → IsManagerOf contents until h log
manager_log contents until h node log opens (inl none) = absurd (cc (none.0))
manager_log contents until h node log opens (inr is) =
    let same : is.0 ≡ log = cc is.1 in
    let its = is.2 in
    subst (IsManagerOf contents until h) same (record {
      journal = record { its_name = its.its_name; begins = its.begins ∙ opens; runs = its.its.goes_on };
      its = its.its;
      own = its.own;
    })

-- there are few of each kind
pub few : {S : Type 0} (nodes : List (Node S)) (there : List S) (n : ℕ) → states nodes ≡ there → length there ≡ n → n ≤ 80 → length nodes < 2 ^ 32
few nodes there n is many small = omega (arith, long_states nodes there n is many, small)

pub few_masters : (h : Header) → IsHeader h → (nodes : List (Node MasterStage)) → states nodes ≡ (opening h).masters → length nodes < 2 ^ 32
few_masters h is nodes are = few nodes (opening h).masters h.parts are (master_count h) (omega (arith, is.parts.1))
