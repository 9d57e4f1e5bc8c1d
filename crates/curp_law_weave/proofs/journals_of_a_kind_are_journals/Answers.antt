use Rattle.curp_law_weave.proofs.ByKind.{backup_journal, client_journal, manager_journal, master_journal, witness_journal}
use Rattle.curp_law_weave.proofs.journals_of_a_kind_are_journals.Goals as goal

pub returns : goal.returns
returns c = record {
  clients = client_journal;
  manager = manager_journal;
  masters = master_journal;
  backups = backup_journal;
  witnesses = witness_journal;
}
