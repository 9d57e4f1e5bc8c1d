use Rattle.std.proofs.Common.{◌≡◌, length, ◌∙◌, arith}
use Rattle.curp_anew.proofs.Counts.{client_count, few_nodes, long_states}
use Rattle.curp_anew.proofs.Handed.{handed_whole}
use Rattle.curp_live.proofs.checking.all_as_at_opening.Goals as goal

pub others_anew-requires-clause-few_clients : goal.others_anew-requires-clause-few_clients
others_anew-requires-clause-few_clients c = (few_nodes c.args.header.now c.args.recoveries c.in_ok-nodes.nodes c.requires.header c.requires.recoveries c.in_ok-nodes.ensures).clients

pub others_anew-requires-clause-few_masters : goal.others_anew-requires-clause-few_masters
others_anew-requires-clause-few_masters c = (few_nodes c.args.header.now c.args.recoveries c.in_ok-nodes.nodes c.requires.header c.requires.recoveries c.in_ok-nodes.ensures).masters

pub others_anew-requires-clause-few_backups : goal.others_anew-requires-clause-few_backups
others_anew-requires-clause-few_backups c = (few_nodes c.args.header.now c.args.recoveries c.in_ok-nodes.nodes c.requires.header c.requires.recoveries c.in_ok-nodes.ensures).backups

pub others_anew-requires-clause-few_witnesses : goal.others_anew-requires-clause-few_witnesses
others_anew-requires-clause-few_witnesses c = (few_nodes c.args.header.now c.args.recoveries c.in_ok-nodes.nodes c.requires.header c.requires.recoveries c.in_ok-nodes.ensures).witnesses

pub returns-clause-anew : goal.returns-clause-anew
returns-clause-anew c = record {
  nodes = c.in_ok-nodes.nodes;
  opening = c.in_ok-nodes.ensures;
  manager = rw c.in-Some-2.is at c.in_ok-manager.ensures.anew;
  runs = rw c.in-Some-2.is at c.in_ok-manager.ensures.runs;
  clients = rw c.in-Some.is at c.in_ok-others.ensures.clients;
  masters = rw c.in-Some.is at c.in_ok-others.ensures.masters;
  backups = rw c.in-Some.is at c.in_ok-others.ensures.backups;
  witnesses = rw c.in-Some.is at c.in_ok-others.ensures.witnesses;
}

pub returns-clause-same : goal.returns-clause-same
returns-clause-same c = λ all.
    let h = c.args.header.now in
    let nodes = c.in_ok-nodes.nodes in
    let of = all nodes c.in_ok-nodes.ensures in
    let manager : c.in-Some-2.manager ≡ c.args.taken.manager = cc (c.in_ok-manager.ensures.same of.manager of.runs, c.in-Some-2.is) in
    let others = rw c.in-Some.is at c.in_ok-others.ensures.same of.clients of.masters of.backups of.witnesses in
    let many : length nodes.clients.items ≡ h.clients = long_states nodes.clients.items _ h.clients (c.in_ok-nodes.ensures).clients (client_count h) in
    record {
      manager = manager;
      clients = others.0 ∙ handed_whole h.clients c.args.taken.clients.items (omega (arith, of.clients.many, many));
      masters = others.1;
      backups = others.2;
      witnesses = others.3;
    }
