-- What is known of each kept journal by its type (this project's own).
use Rattle.curp_base.specs.Words.{Each}
use Rattle.curp_msg.specs.Moved.{Moved}
use Rattle.curp_msg.specs.Input.{Input}
use Rattle.curp_client.specs.Machine.{client_machine}
use Rattle.curp_config.specs.Machine.{manager_machine}
use Rattle.curp_nodes.specs.Machines.{backup_machine, master_machine, witness_machine}
use Rattle.curp_journal.specs.Journal.{IsJournal, NodeJournal, Stamped}
use Rattle.curp_gather.specs.declared.journals.Journals.{Journals}

-- the machine makes the items of their inputs, and their stamps rise
pub record IsMadeAnew {N : Type 0} (machine : N → Input → Moved N) (log : NodeJournal N) : Type 0 where
  pub replay : IsJournal machine log.opening log.items
  pub stamped : Stamped 0 log.items

-- so is each journal
pub record AreReplayed (j : Journals) : Type 0 where
  pub manager : IsMadeAnew manager_machine j.manager
  pub clients : Each (IsMadeAnew client_machine) j.clients.items
  pub masters : Each (IsMadeAnew master_machine) j.masters.items
  pub backups : Each (IsMadeAnew backup_machine) j.backups.items
  pub witnesses : Each (IsMadeAnew witness_machine) j.witnesses.items
