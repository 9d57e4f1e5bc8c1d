-- Nodes of the kinds that haven't moved keep what they keep.
use Rattle.std.proofs.Common.{◌≡◌, ◌≢◌, ◌⊎◌, inl, List, ◌++◌, ap, sym, ◌∙◌, subst, Some}
use Rattle.curp_base.specs.Words.{Each, numbered}
use Rattle.curp_cmd.specs.Node.{manager_node}
use Rattle.curp_cmd.specs.declared.node.NodeId.{NodeId}
use Rattle.curp_cmd.specs.declared.node.NodeKind.{NodeKind}
use Rattle.curp_cmd.specs.declared.node.NodeKind.TheVariants as kind
use Rattle.curp_msg.specs.declared.message.Message.{Message}
use Rattle.curp_model.specs.Backup.{BackupState}
use Rattle.curp_model.specs.Manager.{ManagerState}
use Rattle.curp_model.specs.Named.{IsBackup, IsMaster, IsWitness}
use Rattle.curp_model.specs.Recovery.{MasterStage}
use Rattle.curp_model.specs.Witness.{WitnessState}
use Rattle.curp_model.specs.World.{World, messages}
use Rattle.curp_facts.specs.Facts.{IsAmong, IsGiven, Lists}
use Rattle.curp_facts.specs.Nodes.{BackupOk, MasterOk, StartedAt, WitnessOk}
use Rattle.curp_facts.specs.Reach.{IsReady, Whole}
use Rattle.curp_facts.specs.Known.{Known}
use Rattle.curp_law_kept.proofs.Moved.{given_back, ready_back, says_no_more}
use Rattle.curp_facts.specs.Names.{Names}
use Rattle.curp_law_kept.proofs.MastersStay.{master_ok_later}
use Rattle.curp_law_kept.proofs.Nodes.{backup_ok_later, witness_ok_later}
use Rattle.curp_law_kept.proofs.Words.{Follows}

-- a node has one kind
other_kind : {a b : NodeId} (k : NodeKind) → a.kind ≡ k → b.kind ≢ k → a ≢ b
other_kind k is other same = other (ap (λ (x : NodeId). x.kind) (sym same) ∙ is)

-- one node that isn't the manager has said more, and lists are those of before
pub record SaysMore (w v : World) (out : List Message) (mover : NodeId) : Type 0 where
  pub sent : messages v ≡ messages w ++ out
  pub all : Each (λ (m : Message). m.from ≡ mover) out
  pub not_manager : manager_node ≢ mover
  pub manager : v.manager ≡ w.manager

module _ {w v : World} {out : List Message} {mover : NodeId} (f : SaysMore w v out mover) where
  pub same_given : (l : Lists) → IsGiven v l → IsGiven w l
  same_given = given_back w v out f.sent mover f.all (ap (λ (g : ManagerState). g.shape) f.manager) f.not_manager

  -- where it isn't a master, no lists become ready
  pub nothing_ready : Names w → mover.kind ≢ kind.Master → (l : Lists) → IsReady v l → IsReady w l ⊎ Whole v l
  nothing_ready names other l ready =
      inl (ready_back w v out f.sent mover f.all (ap (λ (g : ManagerState). g.shape) f.manager) f.not_manager l (other_kind kind.Master (names.given l (same_given l ready.given)).master.0 other) ready)

module _ {w v : World} (known : Known w) (s : Follows w v) {out : List Message} {mover : NodeId} (f : SaysMore w v out mover) where
  pub masters_stay : mover.kind ≢ kind.Master → v.masters ≡ w.masters → (node : NodeId) (m : MasterStage) → IsMaster v node m → MasterOk v node m
  masters_stay other same node m is =
      let before : IsMaster w node m = record { its_kind = is.its_kind; its_state = subst (λ (ms : List MasterStage). numbered ms node.number ≡ Some m) same is.its_state } in
      master_ok_later s known.inv node m (says_no_more w v out f.sent mover f.all node (other_kind kind.Master is.its_kind other)) (known.inv.masters node m before)

  pub backups_stay : v.backups ≡ w.backups → (l : Lists) → IsGiven v l → (node : NodeId) → IsAmong node l.backups → (b : BackupState) → IsBackup v node b → BackupOk v l b
  backups_stay same l given node named b is =
      let before : IsBackup w node b = record { its_kind = is.its_kind; its_state = subst (λ (bs : List BackupState). numbered bs node.number ≡ Some b) same is.its_state } in
      backup_ok_later s l b (known.inv.backups l (same_given f l given) node named b before)

  witness_before : v.witnesses ≡ w.witnesses → (node : NodeId) (x : WitnessState) → IsWitness v node x → IsWitness w node x
  witness_before same node x is = record { its_kind = is.its_kind; its_state = subst (λ (xs : List WitnessState). numbered xs node.number ≡ Some x) same is.its_state }

  pub witnesses_stay : v.witnesses ≡ w.witnesses → (node : NodeId) (x : WitnessState) → IsWitness v node x → WitnessOk v x
  witnesses_stay same node x is = witness_ok_later s x (known.inv.witnesses node x (witness_before same node x is))

  pub started_stay : v.witnesses ≡ w.witnesses → (l : Lists) → IsGiven v l → (node : NodeId) → IsAmong node l.witnesses → (x : WitnessState) → IsWitness v node x → StartedAt l x
  started_stay same l given node named x is = known.inv.started l (same_given f l given) node named x (witness_before same node x is)
