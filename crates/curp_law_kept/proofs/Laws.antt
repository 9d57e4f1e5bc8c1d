-- What follows for every run, as others cite it.
use Rattle.std.proofs.Common.{List, sym, subst}
use Rattle.curp_base.specs.Words.{Each}
use Rattle.curp_base.proofs.Lists.{Each-weaker}
use Rattle.curp_cmd.specs.declared.node.NodeId.{NodeId}
use Rattle.curp_cmd.specs.declared.node.NodeKind.{NodeKind}
use Rattle.curp_msg.specs.declared.body.Body.{Body}
use Rattle.curp_msg.specs.declared.body.Body.TheVariants as body
use Rattle.curp_msg.specs.declared.message.Message.{Message}
use Rattle.curp_msg.specs.declared.script.Header.{Header}
use Rattle.curp_msg.specs.declared.script.Step.{Step}
use Rattle.curp_model.specs.Named.{IsNode, IsNodeOf}
use Rattle.curp_model.specs.World.{World, messages, world}
use Rattle.curp_msg.specs.Script.{IsRun}
use Rattle.curp_facts.specs.Names.{IsOf}
use Rattle.curp_facts.specs.Fits.{BodyFits, GoesHome, IsBetweenNodes, MessageFits, Nodes, addressee_kind, sender_kind}
use Rattle.curp_law_kept.proofs.Runs.{always}

-- ---- every run

pub nodes_kept : (h : Header) (xs : List Step) → IsRun h xs → Nodes (world h xs)
nodes_kept h xs is = (always h xs is).both.nodes

-- ---- messages

is_node : (w : World) (k : NodeKind) (node : NodeId) → IsOf w k node → IsNode w node
is_node w k node of = subst (λ (j : NodeKind). IsNodeOf w j node.number) (sym of.0) of.1

pub only_sent_to_nodes : (w : World) → Nodes w → Each (IsBetweenNodes w) (messages w)
only_sent_to_nodes w n = Each-weaker (MessageFits w) (IsBetweenNodes w) (λ (m : Message) ok.
    record { sender = is_node w (sender_kind m.body) m.from ok.sender; addressee = is_node w (addressee_kind m.body) m.to ok.addressee }) (messages w) n.said

home : (w : World) (from to : NodeId) (b : Body) → BodyFits w from to b → GoesHome to b
home w from to (body.Reply r) fits = fits
home w from to (body.Worth v) fits = fits
home w from to (body.Refuse r) fits = fits
home w from to (body.Quick q) fits = fits
home w from to (body.Probed a) fits = fits
home w from to (body.Accepted a) fits = fits
home w from to (body.Rejected r) fits = fits
home w from to _ fits = tt

pub answers_go_home : (w : World) → Nodes w → Each (λ (m : Message). GoesHome m.to m.body) (messages w)
answers_go_home w n = Each-weaker (MessageFits w) (λ (m : Message). GoesHome m.to m.body) (λ (m : Message) ok. home w m.from m.to m.body ok.fits) (messages w) n.said
