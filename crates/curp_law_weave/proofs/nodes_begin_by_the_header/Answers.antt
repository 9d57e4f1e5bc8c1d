use Rattle.curp_law_weave.proofs.Openings.{backup_comes, backup_opens, client_opens, manager_opens, master_comes, master_opens, witness_comes, witness_opens}
use Rattle.curp_law_weave.proofs.nodes_begin_by_the_header.Goals as goal

pub returns : goal.returns
returns c = record {
  clients = client_opens;
  manager = manager_opens;
  masters = master_opens;
  backups = backup_opens;
  witnesses = witness_opens;
  fresh_masters = master_comes;
  fresh_backups = backup_comes;
  fresh_witnesses = witness_comes;
}
