-- A witness that an adopted recovery named has said Live only before that recovery was adopted: each step keeps that.
use Rattle.curp_model.specs.World.{World, messages, opening}
use Rattle.curp_facts.specs.Known.{Known}
use Rattle.curp_facts.specs.Predecessors.{Predecessors}
use Rattle.curp_law_kept.proofs.Gives.{Later, among_each, backup_effect, witness_effect, master_step, manager_does, ByBackup, ByClient, ByManager, ByMaster, ByWitness, Rests, StepCase, Stays, client_messages}
use Rattle.curp_msg.specs.declared.message.Message.{Message}
use Rattle.curp_cmd.specs.declared.node.NodeId.{NodeId}
use Rattle.curp_base.specs.Words.{Each, At, numbered}
use Rattle.curp_model.specs.Witness.{WitnessState, witness_input}
use Rattle.curp_msg.specs.declared.body.Probed.{Probed}
use Rattle.curp_model.specs.Named.{IsWitness}
use Rattle.curp_facts.specs.Facts.{IsAmong, WasSent, Lists, WasAdopted}
use Rattle.curp_msg.specs.Moved.{says}
use Rattle.curp_base.proofs.Lists.{at_append_cases, at_within, Each-at, Each-weaker}
use Rattle.curp_msg.specs.declared.body.Recover.{Recover}
use Rattle.curp_cmd.specs.Node.{manager_node, client_node, backup_node, witness_node, master_node}
use Rattle.curp_facts.specs.Names.{RecoverOrderOk, AdoptedOk, IsOf}
use Rattle.curp_facts.specs.Kept.{AdoptionOk, LivesEarly, adopted_by}
use Rattle.curp_law_runs.proofs.Gives.{adoptions_ok, nothing_sent}
use Rattle.curp_facts.specs.Growth.{Grows}
use Rattle.curp_model.specs.Client.{client_input}
use Rattle.curp_model.specs.Backup.{backup_input}
use Rattle.curp_model.specs.Recovery.{master_input}
use Rattle.curp_model.specs.Manager.{manager_input}
use Rattle.curp_law_kept.specs.BackupEffect.{BackupSays}
use Rattle.curp_law_kept.specs.WitnessEffect.{WitnessSays}
use Rattle.curp_law_linear.proofs.ReadsKeepers.{frozen_silent}
use Rattle.curp_base.proofs.Numbered.{numbered_set_same}
use Rattle.curp_law_kept.specs.ManagerEffect.{Uttered}
use Rattle.curp_msg.specs.declared.script.Header.{Header}
use Rattle.curp_msg.specs.declared.body.Body.TheVariants as body
use Rattle.curp_cmd.specs.declared.node.NodeKind.TheVariants as kind
use Rattle.curp_model.specs.declared.Mode.TheVariants as mode
use Rattle.std.proofs.Common.{◌≡◌, ap, sym, ◌∙◌, subst, arith, true, ℕ, List, length, inl, inr, ◌⊎◌, ◌<◌, ◌++◌, ◌+◌, []}
use Rattle.curp_model.proofs.Batches.{all_of-kept}

-- ---- one node has said more

module _ {w v : World} (known : Known w) (chain : Predecessors w) (now : Known v) (later : Later w v) (out : List Message) (sent : messages v ≡ messages w ++ out)
    (mover : NodeId) (all : Each (λ (m : Message). m.from ≡ mover) out)
    (silent : (node to : NodeId) (x : WitnessState) (a : Probed) → IsWitness w node x → x.mode ≡ mode.Frozen → a.live ≡ true → IsAmong (says node to (body.Probed a)) out → ⊥) where
  cases : (k : ℕ) (m : Message) → At (messages v) k m → At (messages w) k m ⊎ ((i : ℕ) × (k ≡ length (messages w) + i) × At out i m)
  cases k m at = at_append_cases (messages w) out k m (subst (λ (ms : List Message). At ms k m) sent at)

  from_mover : (i : ℕ) (m : Message) → At out i m → m.from ≡ mover
  from_mover i m at = Each-at (λ (m : Message). m.from ≡ mover) out all i m at

  module _ (node : NodeId) (order : Recover) (ordered : WasSent v (says manager_node node (body.Recover order))) where
    abbrev word : Message
    word = says manager_node node (adopted_by order)

    home : RecoverOrderOk v node order
    home = now.names.manager_says node (body.Recover order) ordered

    late : 1 < order.epoch
    late = omega (arith, (now.names.given home.before home.was.given).epoch.0, home.earlier)

    -- where it was adopted before, the witness was frozen
    adopted_before : WasSent w word → (l : Lists) × WasAdopted w l × (l.master ≡ node) × AdoptionOk w l
    adopted_before told =
        let a : AdoptedOk w node (record { part = order.part; epoch = order.epoch; version = order.version }) = known.names.manager_says node (adopted_by order) told in
        (a.lists, a.was, a.its_master, adoptions_ok known.names known.inv chain a.lists a.was (omega (arith, late, a.its_epoch)))

    same_order : (l : Lists) → l.master ≡ node → (k : AdoptionOk w l) → k.order ≡ order
    same_order l master k = now.names.one_order node k.order order (subst (λ (z : NodeId). WasSent v (says manager_node z (body.Recover k.order))) master (later.sent _ k.ordered)) ordered

    -- the message of a witness isn't one of the manager
    not_manager : order.witness ≡ manager_node → ⊥
    not_manager same = kinds (sym (among_each (IsOf v kind.Witness) home.before.witnesses (now.names.given home.before home.was.given).witnesses order.witness home.its_witness).0 ∙ ap (λ (z : NodeId). z.kind) same)
      where
        kinds : kind.Witness ≡ kind.Manager → ⊥
        kinds e = cc

    in_order : LivesEarly w → (i j : ℕ) (to : NodeId) (a : Probed) → At (messages v) i (says order.witness to (body.Probed a)) → a.live ≡ true → At (messages v) j word → i < j
    in_order early i j to a at live told = elim (cases j word told) [
      | inl old ↦
          let o = adopted_before (record { place = j; stands = old }) in
          let k : AdoptionOk w o.0 = o.3 in
          let same = same_order o.0 o.2 k in
          elim (cases i (says order.witness to (body.Probed a)) at) [
            | inl was ↦ early o.0 o.1 k.order k.ordered i j to a (subst (λ (z : Recover). At (messages w) i (says z.witness to (body.Probed a))) (sym same) was) live
                (subst (λ (z : Recover). At (messages w) j (says manager_node o.0.master (adopted_by z))) (sym same)
                (subst (λ (z : NodeId). At (messages w) j (says manager_node z (adopted_by order))) (sym o.2) old))
            | inr new ↦
                let frozen : IsWitness w order.witness k.sources.x = subst (λ (z : Recover). IsWitness w z.witness k.sources.x) same (subst (λ (z : NodeId). IsWitness w z k.sources.x) (sym k.its_other) k.sources.its_witness) in
                absurd (silent order.witness to k.sources.x a frozen k.sources.frozen live (record { place = new.0; stands = new.2 }))
          ]
      | inr next ↦ elim (cases i (says order.witness to (body.Probed a)) at) [
        | inl was ↦ omega (arith, at_within (messages w) i (says order.witness to (body.Probed a)) was, next.1)
        | inr new ↦ absurd (not_manager (from_mover new.0 _ new.2 ∙ sym (from_mover next.0 word next.2)))
      ]
    ]

  pub lives_after : LivesEarly w → LivesEarly v
  lives_after early l was order ordered i j to a at live told = in_order l.master order ordered early i j to a at live told

-- a node of another kind than witnesses says no Live
not_witness : {w : World} (out : List Message) (mover : NodeId) → Each (λ (m : Message). m.from ≡ mover) out → (mover.kind ≡ kind.Witness → ⊥)
    → (node to : NodeId) (x : WitnessState) (a : Probed) → IsWitness w node x → x.mode ≡ mode.Frozen → a.live ≡ true → IsAmong (says node to (body.Probed a)) out → ⊥
not_witness {w} out mover all other node to x a is frozen live among =
    other (sym (ap (λ (z : NodeId). z.kind) (among_each (λ (m : Message). m.from ≡ mover) out all _ among)) ∙ is.its_kind)

-- ---- any step

module _ {w v : World} (known : Known w) (chain : Predecessors w) (now : Known v) (grows : Grows w v) (later : Later w v) where
  pub lives_step : StepCase w v → LivesEarly w → LivesEarly v
  lives_step (Stays is) early = subst LivesEarly (sym is) early
  lives_step (Rests r) early = lives_after known chain now later [] (ap messages r.is ∙ all_of-kept w.sent []) (client_node 0) tt (λ node to x a is frozen live among. nothing among) early
    where
      nothing : {m : Message} → IsAmong m [] → ⊥
      nothing a = let at = a.stands in cc
  lives_step (ByClient n given c here for made key is) early =
      let all = client_messages known n given for c here made in
      lives_after known chain now later (client_input n c given).messages (ap messages is ∙ all_of-kept w.sent (client_input n c given).messages) (client_node n) all
      (not_witness (client_input n c given).messages (client_node n) all (λ e. absurd cc)) early
  lives_step (ByBackup n given b here for events none is) early =
      let all = Each-weaker (BackupSays n given (backup_input n b given).state) (λ (m : Message). m.from ≡ backup_node n) (λ m k. k.sender) (backup_input n b given).messages (backup_effect n b given).says in
      lives_after known chain now later (backup_input n b given).messages (ap messages is ∙ all_of-kept w.sent (backup_input n b given).messages) (backup_node n) all
      (not_witness (backup_input n b given).messages (backup_node n) all (λ e. absurd cc)) early
  lives_step (ByWitness n given x here for events none is) early =
      let all = Each-weaker (WitnessSays n given (witness_input n x given).state) (λ (m : Message). m.from ≡ witness_node n) (λ m k. k.sender) (witness_input n x given).messages (witness_effect n x given).says in
      lives_after known chain now later (witness_input n x given).messages (ap messages is ∙ all_of-kept w.sent (witness_input n x given).messages) (witness_node n) all
      (frozen_silent n x given (ap (λ (u : World). numbered u.witnesses n) is ∙ numbered_set_same w.witnesses n x (witness_input n x given).state here) grows) early
  lives_step (ByMaster n given m here for events none is) early =
      let step = master_step known n given m here for events none (subst (Grows w) is grows) (subst (Later w) is later) in
      lives_after known chain now later (master_input n m given).messages (ap messages is ∙ all_of-kept w.sent (master_input n m given).messages) (master_node n) step.frame.all
      (not_witness (master_input n m given).messages (master_node n) step.frame.all (λ e. absurd cc)) early
  lives_step (ByManager given for events none is) early =
      let all = Each-weaker (Uttered w) (λ (m : Message). m.from ≡ manager_node) (λ m u. u.from) (manager_input w.manager given).messages (manager_does known given for).messages in
      lives_after known chain now later (manager_input w.manager given).messages (ap messages is ∙ all_of-kept w.sent (manager_input w.manager given).messages) manager_node all
      (not_witness (manager_input w.manager given).messages manager_node all (λ e. absurd cc)) early

-- nothing was said at the opening
pub lives_opening : (h : Header) → LivesEarly (opening h)
lives_opening h l was order sent i j to a at live told = absurd (nothing_sent h _ sent)
