-- The journals of all nodes of a run, as they were taken, begun anew, and handed out (this project's own).
use Rattle.std.specs.Prelude.{◌≡◌, ◌*◌, ℕ, false}
use Rattle.curp_cmd.specs.Node.{manager_node}
use Rattle.curp_cmd.specs.declared.node.NodeKind.TheVariants as kind
use Rattle.curp_msg.specs.declared.script.Header.{Header}
use Rattle.curp_gather.specs.declared.journals.Journals.{Journals}
use Rattle.curp_anew.specs.Opening.{AreAnew, AreTaken, IsAnew, IsOpening, all_handed_out}
use Rattle.curp_anew.specs.declared.nodes.LiveNodes.{LiveNodes}

-- the journals of all nodes of a header's world, begun before any step, and of the fresh ones of so many recoveries
pub record AreAllAnew (h : Header) (recoveries : ℕ) (journals : Journals) : Type 0 where
  pub nodes : LiveNodes
  pub opening : IsOpening h recoveries nodes
  pub manager : IsAnew manager_node nodes.manager journals.manager
  pub runs : journals.manager.ended ≡ false
  pub clients : AreAnew kind.Client h.clients nodes.clients.items journals.clients.items
  pub masters : AreAnew kind.Master h.parts nodes.masters.items journals.masters.items
  pub backups : AreAnew kind.Backup (h.parts * h.f) nodes.backups.items journals.backups.items
  pub witnesses : AreAnew kind.Witness (h.parts * h.f) nodes.witnesses.items journals.witnesses.items

-- ---- journals as they were taken

-- the journals that are handed out for those that were taken; all clients are there before any step
pub record AreHandedOut (h : Header) (taken journals : Journals) : Type 0 where
  pub manager : journals.manager ≡ taken.manager
  pub clients : journals.clients.items ≡ taken.clients.items
  pub masters : journals.masters.items ≡ all_handed_out h.parts taken.masters.items
  pub backups : journals.backups.items ≡ all_handed_out (h.parts * h.f) taken.backups.items
  pub witnesses : journals.witnesses.items ≡ all_handed_out (h.parts * h.f) taken.witnesses.items

-- one was taken of each node
pub record AreTakenOf (h : Header) (nodes : LiveNodes) (journals : Journals) : Type 0 where
  pub manager : IsAnew manager_node nodes.manager journals.manager
  pub runs : journals.manager.ended ≡ false
  pub clients : AreTaken kind.Client h.clients nodes.clients.items journals.clients.items
  pub masters : AreTaken kind.Master h.parts nodes.masters.items journals.masters.items
  pub backups : AreTaken kind.Backup (h.parts * h.f) nodes.backups.items journals.backups.items
  pub witnesses : AreTaken kind.Witness (h.parts * h.f) nodes.witnesses.items journals.witnesses.items

-- one was taken of each node of a header's world and of each fresh node of so many recoveries, from before any step on
abbrev pub AreAllTaken : Header → ℕ → Journals → Type 0
AreAllTaken h recoveries journals = (nodes : LiveNodes) → IsOpening h recoveries nodes → AreTakenOf h nodes journals
