use Rattle.std.proofs.lemmas.Result.{IfErr-weaker, IfOk-weaker}
use Rattle.std.proofs.Common.{sym}
use Rattle.curp_cmd.specs.declared.node.NodeKind.TheVariants as kinds
use Rattle.curp_model.specs.Witness.{fresh_witness}
use Rattle.curp_model.specs.World.{opening}
use Rattle.curp_nodes.specs.Machines.{witness_machine}
use Rattle.curp_gather.specs.Journals.{IsWitnessJournal}
use Rattle.curp_collected.specs.Files.{contents_of}
use Rattle.curp_collected.proofs.Counts.{witness_count}
use Rattle.curp_collected.proofs.Failing.{IfBecause-weaker, witness_cause}
use Rattle.curp_collected.proofs.Logs.{of_kind}
use Rattle.curp_collected.proofs.kinds.witnesses.Goals as goal

pub with_fresh_witnesses-requires-clause-there : goal.with_fresh_witnesses-requires-clause-there
with_fresh_witnesses-requires-clause-there c = sym (witness_count c.args.files.now.header)

pub with_fresh_witnesses-requires-clause-begun : goal.with_fresh_witnesses-requires-clause-begun
unfolding opening
with_fresh_witnesses-requires-clause-begun c = record {
  nodes = c.in_ok-nodes.nodes.items;
  begun_are = c.in_ok-begun.ensures;
  numbers = c.in_ok-nodes.ensures.numbers;
  states_are = c.in_ok-nodes.ensures.states;
}

pub returns-clause-logs : goal.returns-clause-logs
returns-clause-logs c =
    let files = c.args.files.now in
    let h = files.header in
    let begun = c.in_ok-begun-2.begun.items in
    IfOk-weaker c.journals_of.result _ _ (λ logs have.
    of_kind kinds.Witness (opening h).witnesses (fresh_witness h.sets h.ways) witness_machine (IsWitnessJournal h) files c.requires (λ log name begins. record { its_name = name; begins = begins })
    begun logs.items c.in_ok-begun-2.ensures have) c.journals_of.ensures.logs

pub returns-clause-cause : goal.returns-clause-cause
returns-clause-cause c =
    let files = c.args.files.now in
    let begun = c.in_ok-begun-2.begun.items in
    IfErr-weaker c.journals_of.result _ _ (λ why. IfBecause-weaker why _ _ (witness_cause (contents_of files.each.items) files.header begun c.in_ok-begun-2.ensures.each)) c.journals_of.ensures.cause
