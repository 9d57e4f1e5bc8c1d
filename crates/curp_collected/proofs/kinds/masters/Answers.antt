use Rattle.std.proofs.lemmas.Result.{IfErr-weaker, IfOk-weaker}
use Rattle.std.proofs.Common.{sym}
use Rattle.curp_cmd.specs.declared.node.NodeKind.TheVariants as kinds
use Rattle.curp_model.specs.Recovery.{Fresh}
use Rattle.curp_model.specs.World.{opening}
use Rattle.curp_nodes.specs.Machines.{master_machine}
use Rattle.curp_gather.specs.Journals.{IsMasterJournal}
use Rattle.curp_collected.specs.Files.{contents_of}
use Rattle.curp_collected.proofs.Counts.{master_count}
use Rattle.curp_collected.proofs.Failing.{IfBecause-weaker, master_cause}
use Rattle.curp_collected.proofs.Logs.{of_kind}
use Rattle.curp_collected.proofs.Openings.{few_masters}
use Rattle.curp_collected.proofs.kinds.masters.Goals as goal

pub numbered-requires : goal.numbered-requires
unfolding opening
numbered-requires c = few_masters c.args.files.now.header c.requires.files.header c.in_ok-nodes.nodes.items c.in_ok-nodes.ensures.states

pub with_fresh_masters-requires-clause-there : goal.with_fresh_masters-requires-clause-there
with_fresh_masters-requires-clause-there c = sym (master_count c.args.files.now.header)

pub with_fresh_masters-requires-clause-begun : goal.with_fresh_masters-requires-clause-begun
unfolding opening
with_fresh_masters-requires-clause-begun c = record {
  nodes = c.in_ok-nodes.nodes.items;
  begun_are = c.in_ok-begun.ensures;
  numbers = c.in_ok-nodes.ensures.numbers;
  states_are = c.in_ok-nodes.ensures.states;
}

pub returns-clause-logs : goal.returns-clause-logs
returns-clause-logs c =
    let files = c.args.files.now in
    let h = files.header in
    let begun = c.in_ok-begun-2.begun.items in
    IfOk-weaker c.journals_of.result _ _ (λ logs have.
    of_kind kinds.Master (opening h).masters Fresh master_machine (IsMasterJournal h) files c.requires.files (λ log name begins. record { its_name = name; begins = begins })
    begun logs.items c.in_ok-begun-2.ensures have) c.journals_of.ensures.logs

pub returns-clause-cause : goal.returns-clause-cause
returns-clause-cause c =
    let files = c.args.files.now in
    let begun = c.in_ok-begun-2.begun.items in
    IfErr-weaker c.journals_of.result _ _ (λ why. IfBecause-weaker why _ _ (master_cause (contents_of files.each.items) files.header begun c.in_ok-begun-2.ensures.each)) c.journals_of.ensures.cause
