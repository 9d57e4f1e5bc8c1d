-- Numbers of nodes that there may be.
use Rattle.std.specs.Prelude.{◌≡◌, ◌≤◌, ◌==◌, true, false, not, List}
use Rattle.std.proofs.Common.{inl, inr, ◌∙◌, ap, subst, arith, cond}
use Rattle.std.proofs.lemmas.Bool.{cases_eq, ne_eqb}
use Rattle.curp_base.specs.Words.{Each}
use Rattle.curp_base.proofs.Lists.{Each-at}
use Rattle.curp_cmd.specs.Node.{manager_node, same_kind}
use Rattle.curp_cmd.specs.declared.node.NodeId.{NodeId}
use Rattle.curp_cmd.specs.declared.node.NodeKind.{NodeKind}
use Rattle.curp_cmd.specs.declared.node.NodeKind.TheVariants as kinds
use Rattle.curp_items.specs.Items.{IsNodeName}
use Rattle.curp_msg.specs.declared.script.Header.{Header}
use Rattle.curp_collected.specs.Files.{IsOfHeader}
use Rattle.curp_collected.specs.declared.files.File.{File}
use Rattle.curp_collected.proofs.Begun.{AreCounted, named}

-- there is one manager
pub the_manager : (node : NodeId) → node.kind ≡ kinds.Manager → IsNodeName node → node ≡ manager_node
the_manager node of name = elim (cases_eq node.number 0) [
  | inl zero ↦ ap (λ k. named k node.number) of ∙ ap (named kinds.Manager) zero
  | inr other ↦
      let is : not (same_kind node.kind kinds.Manager) ≡ true = subst (λ b. cond b (same_kind node.kind kinds.Manager) (not (same_kind node.kind kinds.Manager)) ≡ true) (ne_eqb node.number 0 other) name.named in
      let same : not (same_kind node.kind kinds.Manager) ≡ false = ap (λ k. not (same_kind k kinds.Manager)) of in
      absurd cc
]

-- other nodes count from 1
counts : (kind : NodeKind) → same_kind kind kinds.Manager ≡ false → (node : NodeId) → node.kind ≡ kind → IsNodeName node → 1 ≤ node.number
counts kind other node of name = elim (cases_eq node.number 0) [
  | inl zero ↦
      let is : same_kind node.kind kinds.Manager ≡ true = subst (λ n. cond (n == 0) (same_kind node.kind kinds.Manager) (not (same_kind node.kind kinds.Manager)) ≡ true) zero name.named in
      let not_so : same_kind node.kind kinds.Manager ≡ false = ap (λ k. same_kind k kinds.Manager) of ∙ other in
      absurd cc
  | inr more ↦ omega (arith, more)
]

pub are_counted : (kind : NodeKind) → same_kind kind kinds.Manager ≡ false → (h : Header) (files : List File) → Each (IsOfHeader h) files → AreCounted kind files
are_counted kind other h files each k f at of = counts kind other f.title.node of (Each-at (IsOfHeader h) files each k f at).read.is.node
