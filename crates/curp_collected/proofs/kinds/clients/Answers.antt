use Rattle.std.proofs.Common.{◌∙◌, ap, replicate}
use Rattle.std.proofs.lemmas.Result.{IfErr-weaker, IfOk-weaker}
use Rattle.curp_cmd.specs.declared.node.NodeKind.TheVariants as kinds
use Rattle.curp_model.specs.Client.{fresh_client}
use Rattle.curp_model.specs.World.{opening}
use Rattle.curp_collected.specs.Files.{contents_of}
use Rattle.curp_collected.specs.Kinds.{AreThere}
use Rattle.curp_collected.proofs.Failing.{IfBecause-weaker, client_cause}
use Rattle.curp_collected.proofs.Openings.{clients_begun, clients_of}
use Rattle.curp_collected.proofs.kinds.clients.Goals as goal

pub returns-clause-logs : goal.returns-clause-logs
unfolding opening
returns-clause-logs c =
    let files = c.args.files.now in
    let h = files.header in
    let nodes = c.in_ok-nodes.nodes.items in
    let begun = c.in_ok-begun.begun.items in
    let there : AreThere kinds.Client (opening h).clients begun = record {
      nodes = nodes;
      begun_are = c.in_ok-begun.ensures;
      numbers = c.in_ok-nodes.ensures.numbers;
      states_are = c.in_ok-nodes.ensures.states ∙ ap (λ config. replicate h.clients (fresh_client h.fast h.protocol config)) c.requires.config;
    } in
    IfOk-weaker c.journals_of.result _ _ (λ logs have. clients_of files c.requires.files nodes begun c.in_ok-begun.ensures there logs.items have) c.journals_of.ensures.logs

pub returns-clause-cause : goal.returns-clause-cause
unfolding opening
returns-clause-cause c =
    let files = c.args.files.now in
    let h = files.header in
    let begun = c.in_ok-begun.begun.items in
    let there : AreThere kinds.Client (opening h).clients begun = record {
      nodes = c.in_ok-nodes.nodes.items;
      begun_are = c.in_ok-begun.ensures;
      numbers = c.in_ok-nodes.ensures.numbers;
      states_are = c.in_ok-nodes.ensures.states ∙ ap (λ config. replicate h.clients (fresh_client h.fast h.protocol config)) c.requires.config;
    } in
    IfErr-weaker c.journals_of.result _ _ (λ why. IfBecause-weaker why _ _ (client_cause (contents_of files.each.items) h begun (clients_begun files c.requires.files begun there).each)) c.journals_of.ensures.cause
