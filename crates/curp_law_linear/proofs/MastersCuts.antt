-- A step of a master leaves what the marks of adoptions tell.
use Rattle.std.proofs.Common.{◌≡◌, inl, ℕ, ◌++◌, if◌then◌else◌, List, refl, ap, subst, Option, Some, sym, ◌∙◌}
use Rattle.curp_base.specs.Words.{numbered}
use Rattle.curp_cmd.specs.Node.{master_node}
use Rattle.curp_cmd.specs.declared.node.NodeId.{NodeId}
use Rattle.curp_msg.specs.declared.body.Body.{Body}
use Rattle.curp_msg.specs.declared.config.PartConfig.{PartConfig}
use Rattle.curp_msg.specs.declared.message.Message.{Message}
use Rattle.curp_model.specs.Manager.{ManagerState}
use Rattle.curp_model.specs.Recovery.{MasterStage}
use Rattle.curp_model.specs.World.{World, is_adopted, master_marks}
use Rattle.curp_facts.specs.Facts.{IsAdoptedNow}
use Rattle.curp_facts.specs.Known.{Known}
use Rattle.curp_facts.specs.Predecessors.{Predecessors}
use Rattle.curp_law_kept.proofs.Gives.{MasterStep, step_follows, adopted_back, sent_back}
use Rattle.curp_law_linear.specs.Ordered.{CutsFollow}
use Rattle.curp_law_linear.proofs.CutMarks.{cuts_marked}
use Rattle.curp_law_linear.proofs.Cuts.{cuts_stay}
use Rattle.curp_law_linear.proofs.ReadsLater.{EntryStays}
use Rattle.curp_cmd.specs.declared.node.NodeKind.TheVariants as kind
use Rattle.curp_law_linear.proofs.ReadsPassed.{NewerLists, NoneLives, NoneLate}

module _ {w v : World} (n : ℕ) (from : NodeId) (heard : Option Body) (out : List Message) (m k : MasterStage) (s : MasterStep w v n from heard m k out) where
  -- no entry changes, no lists are adopted
  abbrev pub master_entries : (c : PartConfig) → IsAdoptedNow v c → EntryStays w c
  master_entries c here = record {
    entry = c;
    now = subst (λ (g : ManagerState). numbered g.config.parts c.part ≡ Some c) s.frame.manager here;
    its_part = refl;
    its_epoch = refl;
    its_master = refl;
  }

  pub master_newer : NewerLists w v
  master_newer l was = inl (adopted_back w v out s.frame.sent (master_node n) s.frame.all (ap (λ (g : ManagerState). g.shape) s.frame.manager) s.frame.not_manager l was)

  -- and nothing is said that a backup or a witness says
  pub master_late : NoneLate w v
  master_late node to b a long is below stored sent = sent_back w v out s.frame.sent (master_node n) s.frame.all _ sent (λ same. kinds (sym is.its_kind ∙ ap (λ (z : NodeId). z.kind) same))
    where
      kinds : kind.Backup ≡ kind.Master → ⊥
      kinds e = cc

  pub master_lives : NoneLives w v
  master_lives node to x a is frozen live sent = sent_back w v out s.frame.sent (master_node n) s.frame.all _ sent (λ same. kinds (sym is.its_kind ∙ ap (λ (z : NodeId). z.kind) same))
    where
      kinds : kind.Witness ≡ kind.Master → ⊥
      kinds e = cc

  pub master_cuts : Known w → Predecessors w → Known v → v.marks ≡ (if is_adopted w.manager (master_node n) then w.marks ++ master_marks (master_node n) m k else w.marks) → CutsFollow w → CutsFollow v
  master_cuts known chain now marks follow =
      cuts_stay known chain now (step_follows known s) master_entries master_newer (cuts_marked w v (master_node n) m k (is_adopted w.manager (master_node n)) marks) follow
