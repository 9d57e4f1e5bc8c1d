-- What a delivery does to a master by its stage, and to the manager.
use Rattle.std.proofs.Common.{◌≡◌, ℕ, List, ◌++◌, Option, Some, ap, sym, ◌∙◌, subst}
use Rattle.curp_base.specs.Words.{numbered}
use Rattle.curp_base.proofs.Numbered.{numbered_set_same}
use Rattle.curp_cmd.specs.Node.{manager_node, master_node}
use Rattle.curp_cmd.specs.declared.node.NodeId.{NodeId}
use Rattle.curp_msg.specs.Moved.{Moved, within}
use Rattle.curp_msg.specs.Input as input
use Rattle.curp_msg.specs.declared.message.Message.{Message}
use Rattle.curp_model.specs.Backup.{BackupState}
use Rattle.curp_model.specs.Manager.{ManagerState, adopted_by, on_manager}
use Rattle.curp_model.specs.Recovery.{MasterStage, master_input, on_master}
use Rattle.curp_model.specs.World.{World, messages, moves, moves_one, with_manager, with_master}
use Rattle.curp_law_served.proofs.Steps.{Delivered, numbered_more}

-- master q has moved
pub record StageDid (w v : World) (q : ℕ) (r : Moved MasterStage) : Type 0 where
  pub clients : v.clients ≡ w.clients
  pub manager : v.manager ≡ w.manager
  pub backups : v.backups ≡ w.backups
  pub master : numbered v.masters q ≡ Some r.state
  pub said : messages v ≡ messages w ++ r.messages

pub stage_did : (w v : World) (x : Message) (q : ℕ) (m : MasterStage) → Delivered w v x → x.to ≡ master_node q
    → numbered w.masters q ≡ Some m → StageDid w v q (on_master q m x.from x.body)
stage_did w v x q m did to is =
    let e : moves w x.to (input.Message x) ≡ moved = ap (λ (node : NodeId). moves w node (input.Message x)) to ∙ at_master in
    record {
      clients = did.clients ∙ ap (λ (r : Moved World). r.state.clients) e;
      manager = did.manager ∙ ap (λ (r : Moved World). r.state.manager) e;
      backups = did.backups ∙ ap (λ (r : Moved World). r.state.backups) e;
      master = subst (λ (l : List MasterStage). numbered l q ≡ Some (on_master q m x.from x.body).state) (sym (did.masters ∙ ap (λ (r : Moved World). r.state.masters) e))
          (numbered_set_same w.masters q m (on_master q m x.from x.body).state is);
      said = did.said ∙ ap (λ (r : Moved World). messages w ++ r.messages) e;
    }
  where
    moved : Moved World
    moved = within (with_master w q (input.Message x) m) (on_master q m x.from x.body)

    at_master : moves w (master_node q) (input.Message x) ≡ moved
    at_master = ap (λ (o : Option MasterStage). moves_one w (λ k. within (with_master w q (input.Message x) k) (master_input q k (input.Message x))) o) is

-- the manager has moved
pub record ManagerDid (w v : World) (r : Moved ManagerState) : Type 0 where
  pub clients : v.clients ≡ w.clients
  pub manager : v.manager ≡ r.state
  pub backups : (n : ℕ) (b : BackupState) → numbered w.backups n ≡ Some b → numbered v.backups n ≡ Some b
  pub masters : (n : ℕ) (b : MasterStage) → numbered w.masters n ≡ Some b → numbered v.masters n ≡ Some b
  pub said : messages v ≡ messages w ++ r.messages

pub manager_did : (w v : World) (x : Message) → Delivered w v x → x.to ≡ manager_node
    → ManagerDid w v (on_manager w.manager x.from x.body)
manager_did w v x did to =
    let e : moves w x.to (input.Message x) ≡ moved = ap (λ (node : NodeId). moves w node (input.Message x)) to in
    record {
      clients = did.clients ∙ ap (λ (r : Moved World). r.state.clients) e;
      manager = did.manager ∙ ap (λ (r : Moved World). r.state.manager) e;
      backups = λ n b h. subst (λ (l : List BackupState). numbered l n ≡ Some b) (sym (did.backups ∙ ap (λ (r : Moved World). r.state.backups) e)) (numbered_more w.backups _ n b h);
      masters = λ n b h. subst (λ (l : List MasterStage). numbered l n ≡ Some b) (sym (did.masters ∙ ap (λ (r : Moved World). r.state.masters) e)) (numbered_more w.masters _ n b h);
      said = did.said ∙ ap (λ (r : Moved World). messages w ++ r.messages) e;
    }
  where
    moved : Moved World
    moved = within (with_manager w (adopted_by w.manager x.body)) (on_manager w.manager x.from x.body)
