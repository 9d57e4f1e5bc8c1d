use Rattle.std.proofs.Common.{◌∙◌, ap, arith}
use Rattle.curp_cmd.specs.Node.{same_node}
use Rattle.curp_cmd.proofs.Nodes.{same_node-self}
use Rattle.curp_journal.specs.Turns.{Journal}
use Rattle.curp_merge.proofs.Senders.{before_is, number_is, only_number, position_none, stands_at, step_below}
use Rattle.curp_merge.proofs.step.number_of.Goals as goal

pub unreachable-requires : goal.unreachable-requires
unreachable-requires c =
    let s = c.requires.sent in
    let from = c.args.named.now.from in
    position_none (λ (j : Journal). same_node j.id from) c.args.strands.now c.in_default.ensures s.place s.journal s.stands (ap (λ n. same_node n from) s.its_name ∙ same_node-self from)

pub bounds-tracks-from : goal.bounds-tracks-from
bounds-tracks-from c = stands_at c.args.strands.now c.args.tracks.now c.args.named.now c.in-Some.from c.requires.sent c.requires.apart c.in-Some.ensures

pub offset_bounds-befores-named : goal.offset_bounds-befores-named
offset_bounds-befores-named c =
    let below = step_below c.args.strands.now c.args.tracks.now c.args.named.now c.in-Some.from c.requires.sent c.requires.apart c.in-Some.ensures
    c.index-tracks-from.result c.as_slice-befores.result.now c.index-tracks-from.is c.as_slice-befores.ensures in
    omega (arith, below)

pub bounds-befores-named : goal.bounds-befores-named
bounds-befores-named c =
    step_below c.args.strands.now c.args.tracks.now c.args.named.now c.in-Some.from c.requires.sent c.requires.apart c.in-Some.ensures
    c.index-tracks-from.result c.as_slice-befores.result.now c.index-tracks-from.is c.as_slice-befores.ensures

pub overflow_add-result : goal.overflow_add-result
overflow_add-result c =
    let before = before_is c.args.strands.now c.args.tracks.now c.args.named.now c.in-Some.from c.requires.sent c.requires.apart c.in-Some.ensures
    c.index-tracks-from.result c.as_slice-befores.result.now c.index-tracks-from.is c.as_slice-befores.ensures in
    omega (arith, before, c.requires.sent.fits)

pub returns-clause-number : goal.returns-clause-number
returns-clause-number c =
    let before = before_is c.args.strands.now c.args.tracks.now c.args.named.now c.in-Some.from c.requires.sent c.requires.apart c.in-Some.ensures
    c.index-tracks-from.result c.as_slice-befores.result.now c.index-tracks-from.is c.as_slice-befores.ensures in
    rw before (number_is c.args.strands.now c.args.tracks.now c.args.named.now c.requires.sent)

pub returns-clause-names : goal.returns-clause-names
returns-clause-names c =
    let before = before_is c.args.strands.now c.args.tracks.now c.args.named.now c.in-Some.from c.requires.sent c.requires.apart c.in-Some.ensures
    c.index-tracks-from.result c.as_slice-befores.result.now c.index-tracks-from.is c.as_slice-befores.ensures in
    rw before (only_number c.args.strands.now c.args.tracks.now c.args.named.now c.requires.sent c.requires.apart)
