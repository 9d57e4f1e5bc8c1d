use Rattle.std.proofs.Common.{sym, ◌∙◌}
use Rattle.std.specs.HashMap.{get}
use Rattle.curp_cmd.specs.Node.{same_node}
use Rattle.curp_cmd.specs.declared.node.NodeId.{NodeId}
use Rattle.curp_rounds.specs.declared.node_key.NodeKey.{NodeKey}
use Rattle.curp_rounds.proofs.Acks.{noted_before, noted_first}
use Rattle.curp_rounds.proofs.acknowledgements.note.Goals as goal

pub returns-then-contains_key-clause-noted : goal.returns-then-contains_key-clause-noted
returns-then-contains_key-clause-noted c =
    noted_before (λ (b : NodeId). get (λ (j k : NodeKey). same_node j.0 k.0) c.args.places.now (record { 0 = b })) c.args.backup c.args.at
    (sym c.contains_key.ensures ∙ c.if-contains_key.true)

pub returns-clause-noted : goal.returns-clause-noted
returns-clause-noted c = λ other.
    c.in_ok-insert.ensures.updates.0 (record { 0 = other })
    ∙ noted_first (λ (b : NodeId). get (λ (j k : NodeKey). same_node j.0 k.0) c.args.places.now (record { 0 = b })) c.args.backup c.args.at
    (sym c.contains_key.ensures ∙ c.if-contains_key.false) other
