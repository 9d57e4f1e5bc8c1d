-- A step of a backup or of a witness keeps what is kept of reads.
use Rattle.std.proofs.Common.{◌≡◌, ◌≢◌, inl, inr, ℕ, ◌≤◌, List, ap, subst, arith, Some, ◌∙◌, Option, true, false, sym}
use Rattle.curp_base.specs.Words.{Each, numbered}
use Rattle.curp_base.proofs.Lists.{Each-weaker}
use Rattle.curp_cmd.specs.Node.{backup_node, witness_node}
use Rattle.curp_cmd.specs.declared.node.NodeId.{NodeId}
use Rattle.curp_cmd.specs.declared.node.NodeKind.TheVariants as kind
use Rattle.curp_msg.specs.Moved.{says}
use Rattle.curp_msg.specs.declared.answer.AppendAnswer.{AppendAnswer}
use Rattle.curp_msg.specs.declared.answer.AppendAnswer.TheVariants.{Stored}
use Rattle.curp_msg.specs.declared.body.Appended.{Appended}
use Rattle.curp_msg.specs.declared.body.Body.TheVariants as body
use Rattle.curp_msg.specs.Input.{Input}
use Rattle.curp_msg.specs.declared.message.Message.{Message}
use Rattle.curp_model.specs.Backup.{BackupState, backup_input}
use Rattle.curp_model.specs.Named.{IsBackup, IsWitness}
use Rattle.curp_model.specs.Witness.{WitnessState, witness_input, is_live}
use Rattle.curp_model.specs.World.{World}
use Rattle.curp_facts.specs.Growth.{BackupGrows, WitnessGrows, Dropped, Grows}
use Rattle.curp_law_kept.specs.BackupEffect.{AppendAnswerSays, AppendedSays, BackupSays}
use Rattle.curp_law_kept.specs.WitnessEffect.{WitnessSays, ProbedSays}
use Rattle.curp_law_kept.proofs.Gives.{backup_effect, witness_effect, KeeperMoved, sent_cases, SaysMore, nothing_ready, among_each, Follows, one_state}
use Rattle.curp_facts.specs.Known.{Known}
use Rattle.curp_law_linear.specs.Ordered.{Ordered}
use Rattle.curp_law_linear.specs.Refined.{Refines}
use Rattle.curp_law_linear.proofs.ReadsLater.{ReadsOk}
use Rattle.curp_law_linear.specs.Refined.{NoAdoption}
use Rattle.curp_law_linear.proofs.ReadsPassed.{NoneLate, NoneLives}
use Rattle.curp_law_linear.proofs.ReadsQuiet.{frame_reads, looks_same, none_late, none_lives}
use Rattle.curp_facts.specs.Predecessors.{Predecessors}
use Rattle.curp_law_linear.specs.OfWorld.{cuts}
use Rattle.curp_model.specs.declared.Mode.TheVariants as mode
use Rattle.curp_model.specs.declared.Mode.{Mode}
use Rattle.curp_facts.specs.Facts.{IsAmong}
use Rattle.curp_msg.specs.declared.body.Probed.{Probed}

-- a witness that is frozen stays so, and says no Live
pub frozen_silent : {w v : World} → (n : ℕ) (x : WitnessState) (given : Input) → numbered v.witnesses n ≡ Some (witness_input n x given).state → Grows w v
    → (node to : NodeId) (y : WitnessState) (a : Probed) → IsWitness w node y → y.mode ≡ mode.Frozen → a.live ≡ true → IsAmong (says node to (body.Probed a)) (witness_input n x given).messages → ⊥
frozen_silent {w} {v} n x given is grows node to y a here frozen live new =
    let k = among_each (WitnessSays n given (witness_input n x given).state) (witness_input n x given).messages (witness_effect n x given).says (says node to (body.Probed a)) new in
    let p : ProbedSays given (witness_input n x given).state to a = k.says_so in
    not_live (witness_input n x given).state.mode (witness_input n x given).state.epoch a.epoch (stays k.sender) (sym p.live ∙ live)
  where
    stays : node ≡ witness_node n → (witness_input n x given).state.mode ≡ mode.Frozen
    stays same = go (grows.witnesses n y (subst (λ (m : NodeId). numbered w.witnesses m.number ≡ Some y) same here.its_state))
      where
        go : (z : WitnessState) × (numbered v.witnesses n ≡ Some z) × WitnessGrows (Dropped v n y) y z → (witness_input n x given).state.mode ≡ mode.Frozen
        go o = ap (λ (z : WitnessState). z.mode) (one_state _ (witness_input n x given).state o.0 is o.1 ∙ o.2.frozen frozen) ∙ frozen

    not_live : (m : Mode) (own : Option ℕ) (epoch : ℕ) → m ≡ mode.Frozen → is_live m own epoch ≡ true → ⊥
    not_live m own epoch frozen live = let bad : false ≡ true = sym (ap (λ (z : Mode). is_live z own epoch) frozen) ∙ live in cc

module _ {w v : World} (known : Known w) (now : Known v) (chain : Predecessors w) (later : Predecessors v) (ordered : Ordered w) (marks : v.marks ≡ w.marks)
    (r : Refines w v) (none : Each NoAdoption r.moves) where
  module _ {out : List Message} {mover : NodeId} (f : SaysMore w v out mover) (not_master : mover.kind ≢ kind.Master) (moved : KeeperMoved w v mover out) where
    follows : Follows w v
    follows = record { grows = moved.grows; later = moved.later; names = known.names; steady = known.steady; ready = nothing_ready f known.names not_master }

    keeper_reads : NoneLate w v → NoneLives w v → ReadsOk v
    keeper_reads late lives = frame_reads known now f not_master chain later ordered follows r none moved.masters (λ part. ap (cuts part) marks) (looks_same marks) late lives

  -- an input to a witness
  pub witness_reads : (n : ℕ) (x : WitnessState) (given : Input) → numbered v.witnesses n ≡ Some (witness_input n x given).state → KeeperMoved w v (witness_node n) (witness_input n x given).messages → ReadsOk v
  witness_reads n x given is moved = keeper_reads more (λ e. absurd cc) moved (none_late known now more (λ e. absurd cc) (λ e. absurd cc)) lives
    where
      more : SaysMore w v (witness_input n x given).messages (witness_node n)
      more = record {
        sent = moved.sent;
        all = Each-weaker (WitnessSays n given (witness_input n x given).state) (λ (m : Message). m.from ≡ witness_node n) (λ m k. k.sender) (witness_input n x given).messages (witness_effect n x given).says;
        not_manager = λ e. kinds (ap (λ (y : NodeId). y.kind) e);
        manager = moved.manager;
      }
        where
          kinds : kind.Manager ≡ kind.Witness → ⊥
          kinds e = cc

      lives : NoneLives w v
      lives node to y a here frozen live sent = elim (sent_cases w v (witness_input n x given).messages moved.sent _ sent) [
        | inl before ↦ before
        | inr new ↦ absurd (frozen_silent n x given is moved.grows node to y a here frozen live new)
      ]

  -- an input to a backup: one that is fenced above an epoch stores nothing of that epoch
  pub backup_reads : (n : ℕ) (b : BackupState) (given : Input) → numbered w.backups n ≡ Some b → numbered v.backups n ≡ Some (backup_input n b given).state
      → KeeperMoved w v (backup_node n) (backup_input n b given).messages → ReadsOk v
  backup_reads n b given was is moved = keeper_reads more (λ e. absurd cc) moved late (none_lives known now more (λ e. absurd cc) (λ e. absurd cc))
    where
      more : SaysMore w v (backup_input n b given).messages (backup_node n)
      more = record {
        sent = moved.sent;
        all = Each-weaker (BackupSays n given (backup_input n b given).state) (λ (m : Message). m.from ≡ backup_node n) (λ m k. k.sender) (backup_input n b given).messages (backup_effect n b given).says;
        not_manager = λ e. kinds (ap (λ (y : NodeId). y.kind) e);
        manager = moved.manager;
      }
        where
          kinds : kind.Manager ≡ kind.Backup → ⊥
          kinds e = cc

      -- its fence hasn't fallen
      fence : (node : NodeId) (x : BackupState) → node ≡ backup_node n → IsBackup w node x → x.fence ≤ (backup_input n b given).state.fence
      fence node x same here = go (moved.grows.backups n x (subst (λ (m : NodeId). numbered w.backups m.number ≡ Some x) same here.its_state))
        where
          go : (y : BackupState) × (numbered v.backups n ≡ Some y) × BackupGrows x y → x.fence ≤ (backup_input n b given).state.fence
          go o = omega (arith, o.2.fence, ap (λ (y : BackupState). y.fence) (one_state _ o.0 (backup_input n b given).state o.1 is))

      stored : (a : Appended) (long : ℕ) (to : NodeId) → a.answer ≡ Stored long → AppendedSays given (backup_input n b given).state to a → (backup_input n b given).state.fence ≤ a.epoch
      stored a long to answer ok = go a.answer answer ok.answer
        where
          go : (x : AppendAnswer) → x ≡ Stored long → AppendAnswerSays (backup_input n b given).state ok.append x → (backup_input n b given).state.fence ≤ a.epoch
          go (Stored other) e k = omega (arith, k.not_fenced, ok.epoch)
          go _ e k = absurd cc

      late : NoneLate w v
      late node to x a long here below answer sent = elim (sent_cases w v (backup_input n b given).messages moved.sent _ sent) [
        | inl before ↦ before
        | inr new ↦
            let k = among_each (BackupSays n given (backup_input n b given).state) (backup_input n b given).messages (backup_effect n b given).says (says node to (body.Appended a)) new in
            absurd (omega (arith, below, fence node x k.sender here, stored a long to answer k.says_so))
      ]
