use Rattle.std.proofs.lemmas.Result.{IfErr-weaker, IfOk-weaker}
use Rattle.std.proofs.Common.{sym}
use Rattle.curp_cmd.specs.declared.node.NodeKind.TheVariants as kinds
use Rattle.curp_model.specs.Backup.{fresh_backup}
use Rattle.curp_model.specs.World.{opening}
use Rattle.curp_nodes.specs.Machines.{backup_machine}
use Rattle.curp_gather.specs.Journals.{IsBackupJournal}
use Rattle.curp_collected.specs.Files.{contents_of}
use Rattle.curp_collected.proofs.Counts.{backup_count}
use Rattle.curp_collected.proofs.Failing.{IfBecause-weaker, backup_cause}
use Rattle.curp_collected.proofs.Logs.{of_kind}
use Rattle.curp_collected.proofs.kinds.backups.Goals as goal

pub with_fresh_backups-requires-clause-there : goal.with_fresh_backups-requires-clause-there
with_fresh_backups-requires-clause-there c = sym (backup_count c.args.files.now.header)

pub with_fresh_backups-requires-clause-begun : goal.with_fresh_backups-requires-clause-begun
unfolding opening
with_fresh_backups-requires-clause-begun c = record {
  nodes = c.in_ok-nodes.nodes.items;
  begun_are = c.in_ok-begun.ensures;
  numbers = c.in_ok-nodes.ensures.numbers;
  states_are = c.in_ok-nodes.ensures.states;
}

pub returns-clause-logs : goal.returns-clause-logs
returns-clause-logs c =
    let files = c.args.files.now in
    let h = files.header in
    let begun = c.in_ok-begun-2.begun.items in
    IfOk-weaker c.journals_of.result _ _ (λ logs have.
    of_kind kinds.Backup (opening h).backups fresh_backup backup_machine (IsBackupJournal h) files c.requires (λ log name begins. record { its_name = name; begins = begins })
    begun logs.items c.in_ok-begun-2.ensures have) c.journals_of.ensures.logs

pub returns-clause-cause : goal.returns-clause-cause
returns-clause-cause c =
    let files = c.args.files.now in
    let begun = c.in_ok-begun-2.begun.items in
    IfErr-weaker c.journals_of.result _ _ (λ why. IfBecause-weaker why _ _ (backup_cause (contents_of files.each.items) files.header begun c.in_ok-begun-2.ensures.each)) c.journals_of.ensures.cause
