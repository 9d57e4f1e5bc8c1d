-- What was begun anew and did the work is a live run.
use Rattle.std.proofs.Common.{◌≡◌, ℕ, ◌*◌, List, map, ap, sym, ◌∙◌}
use Rattle.curp_base.specs.Words.{Each}
use Rattle.curp_base.proofs.Lists.{Each-append, Each-at, Each-from_at, Each-map}
use Rattle.curp_cmd.specs.Node.{manager_node}
use Rattle.curp_cmd.specs.declared.command.Command.{Command}
use Rattle.curp_cmd.specs.declared.node.NodeId.{NodeId}
use Rattle.curp_cmd.specs.declared.node.NodeKind.TheVariants as kind
use Rattle.curp_msg.specs.declared.script.Header.{Header}
use Rattle.curp_msg.specs.Script.{IsHeader}
use Rattle.curp_model.specs.Backup.{fresh_backup}
use Rattle.curp_model.specs.Recovery.{Fresh}
use Rattle.curp_model.specs.Witness.{fresh_witness}
use Rattle.curp_model.specs.World.{opening}
use Rattle.curp_msg.specs.Moved.{Node}
use Rattle.curp_journal.specs.Journal.{NodeJournal}
use Rattle.curp_model.specs.Client.{ClientState}
use Rattle.curp_journal.specs.Turns.{Journal}
use Rattle.curp_law_weave.specs.Run.{ordered_in}
use Rattle.curp_gather.specs.Journals.{AreOf, IsBackupJournal, IsClientJournal, IsManagerJournal, IsMasterJournal, IsWitnessJournal, journal_of, journals_of}
use Rattle.curp_gather.specs.declared.journals.Journals.{Journals}
use Rattle.curp_words.specs.Plan.{IsLivePlan, live_header}
use Rattle.curp_words.specs.declared.task.LivePlan.{LivePlan}
use Rattle.curp_due.specs.Recoveries.{recoveries_from, stops}
use Rattle.curp_anew.specs.Work.{DidInOrder, FewPending}
use Rattle.curp_live.specs.Live.{AllEndAsPlanned, DidAll, IsLiveRun}
use Rattle.curp_live.specs.Taken.{AreAllAnew}
use Rattle.curp_live.proofs.Begun.{HasOwn, all_own, begins_at, name_at, own_anew, rise, state_at}
use Rattle.curp_anew.proofs.Counts.{backup_count, master_count, witness_count}

-- what holds of each journal of a kind, and of the manager's, holds of all
each_of : (P : Journal → Type 0) (j : Journals) → P (journal_of j.manager)
    → Each (λ log. P (journal_of log)) j.clients.items → Each (λ log. P (journal_of log)) j.masters.items
    → Each (λ log. P (journal_of log)) j.backups.items → Each (λ log. P (journal_of log)) j.witnesses.items → Each P (journals_of j)
each_of P j manager clients masters backups witnesses = (
  manager,
  Each-append P (map journal_of j.clients.items) _ (Each-map P journal_of j.clients.items clients)
      (Each-append P (map journal_of j.masters.items) _ (Each-map P journal_of j.masters.items masters)
      (Each-append P (map journal_of j.backups.items) _ (Each-map P journal_of j.backups.items backups)
      (Each-map P journal_of j.witnesses.items witnesses))),
)

module _ (h : Header) (recoveries : ℕ) (j : Journals) (are : AreAllAnew h recoveries j) where
  all : Each HasOwn (journals_of j)
  all = each_of HasOwn j
      (own_anew manager_node are.nodes.manager j.manager are.manager)
      (all_own kind.Client h.clients are.nodes.clients.items j.clients.items are.clients)
      (all_own kind.Master h.parts are.nodes.masters.items j.masters.items are.masters)
      (all_own kind.Backup (h.parts * h.f) are.nodes.backups.items j.backups.items are.backups)
      (all_own kind.Witness (h.parts * h.f) are.nodes.witnesses.items j.witnesses.items are.witnesses)

  manager : IsManagerJournal h j.manager
  manager = record {
    its_name = are.manager.its_name;
    begins = are.manager.begins ∙ are.opening.manager;
    runs = are.runs;
  }

  clients : Each (IsClientJournal h) j.clients.items
  clients = Each-from_at (IsClientJournal h) j.clients.items (λ k log at.
      let nodes = are.nodes.clients.items in
      let numbers = are.opening.client_numbers in
      record {
        its_name = name_at kind.Client h.clients nodes j.clients.items are.clients numbers k log at;
        begins = state_at kind.Client h.clients nodes j.clients.items are.clients numbers (opening h).clients are.opening.clients k log at;
      })

  masters : Each (IsMasterJournal h) j.masters.items
  masters = Each-from_at (IsMasterJournal h) j.masters.items (λ k log at.
      let nodes = are.nodes.masters.items in
      let numbers = are.opening.master_numbers in
      record {
        its_name = name_at kind.Master h.parts nodes j.masters.items are.masters numbers k log at;
        begins = begins_at kind.Master h.parts nodes j.masters.items are.masters numbers (opening h).masters Fresh recoveries
            (sym (master_count h)) are.opening.masters k log at;
      })

  backups : Each (IsBackupJournal h) j.backups.items
  backups = Each-from_at (IsBackupJournal h) j.backups.items (λ k log at.
      let nodes = are.nodes.backups.items in
      let numbers = are.opening.backup_numbers in
      record {
        its_name = name_at kind.Backup (h.parts * h.f) nodes j.backups.items are.backups numbers k log at;
        begins = begins_at kind.Backup (h.parts * h.f) nodes j.backups.items are.backups numbers (opening h).backups fresh_backup (recoveries * h.f)
            (sym (backup_count h)) are.opening.backups k log at;
      })

  witnesses : Each (IsWitnessJournal h) j.witnesses.items
  witnesses = Each-from_at (IsWitnessJournal h) j.witnesses.items (λ k log at.
      let nodes = are.nodes.witnesses.items in
      let numbers = are.opening.witness_numbers in
      record {
        its_name = name_at kind.Witness (h.parts * h.f) nodes j.witnesses.items are.witnesses numbers k log at;
        begins = begins_at kind.Witness (h.parts * h.f) nodes j.witnesses.items are.witnesses numbers (opening h).witnesses (fresh_witness h.sets h.ways) (recoveries * h.f)
            (sym (witness_count h)) are.opening.witnesses k log at;
      })

  pub are_of : IsHeader h → AreOf h j
  are_of header = record {
    header = header;
    manager = manager;
    clients = clients;
    masters = masters;
    backups = backups;
    witnesses = witnesses;
    clients_rise = rise kind.Client h.clients are.nodes.clients.items j.clients.items are.clients are.opening.client_numbers;
    masters_rise = rise kind.Master h.parts are.nodes.masters.items j.masters.items are.masters are.opening.master_numbers;
    backups_rise = rise kind.Backup (h.parts * h.f) are.nodes.backups.items j.backups.items are.backups are.opening.backup_numbers;
    witnesses_rise = rise kind.Witness (h.parts * h.f) are.nodes.witnesses.items j.witnesses.items are.witnesses are.opening.witness_numbers;
    own = λ k one t item at. Each-at HasOwn (journals_of j) all k one at t item;
  }

  pub did_all : (work : List (List Command)) → DidInOrder work j.clients.items → DidAll work j.clients.items
  did_all work did = record {
    count = did.count;
    each = λ k log commands at there.
        let name = name_at kind.Client h.clients are.nodes.clients.items j.clients.items are.clients are.opening.client_numbers k log at in
        let d = did.each k log commands at there in
        (sym (ap (λ (id : NodeId). id.number) name) ∙ d.0, d.1);
  }

  pub all_stop : (plan : LivePlan) → AllEndAsPlanned plan j → Each (λ (one : Journal). one.ended ≡ stops plan one.id) (journals_of j)
  all_stop plan ends = each_of (λ (one : Journal). one.ended ≡ stops plan one.id) j
      (are.runs ∙ sym (ap (λ (id : NodeId). stops plan id) are.manager.its_name))
      ends.clients ends.masters ends.backups ends.witnesses

pub live_run : (plan : LivePlan) (work : List (List Command)) (j : Journals) → IsLivePlan plan → AreAllAnew (live_header plan) plan.recoveries j
    → DidInOrder work j.clients.items → Each (λ (log : NodeJournal (Node ClientState)). FewPending log.items) j.clients.items → ordered_in j.manager.items ≡ recoveries_from plan 1 → AllEndAsPlanned plan j → IsLiveRun plan work j
live_run plan work j is are did few recovered ends = record {
  are = are_of (live_header plan) plan.recoveries j are is.header;
  did = did_all (live_header plan) plan.recoveries j are work did;
  pending = few;
  recovered = recovered;
  stopped = Each-at (λ (one : Journal). one.ended ≡ stops plan one.id) (journals_of j) (all_stop (live_header plan) plan.recoveries j are plan ends);
}
