-- A master that switches to new lists is silent.
use Rattle.std.proofs.Common.{◌≡◌, ◌≢◌, inl, inr, ℕ, ◌≤◌, List, [], ◌++◌, append-nil, length, drop, refl, ap, sym, ◌∙◌, subst, arith, Some}
use Rattle.curp_base.specs.Words.{At, Each, numbered}
use Rattle.curp_base.proofs.Lists.{Each-at, Each-weaker, at_append_cases, at_within}
use Rattle.curp_cmd.specs.Node.{backup_node, client_node, manager_node, master_node, witness_node}
use Rattle.curp_cmd.specs.declared.node.NodeId.{NodeId}
use Rattle.curp_cmd.specs.declared.node.NodeKind.TheVariants as kind
use Rattle.curp_msg.specs.Input.{Input}
use Rattle.curp_msg.specs.Input as input
use Rattle.curp_msg.specs.declared.message.Message.{Message}
use Rattle.curp_msg.specs.declared.script.Step.{Step}
use Rattle.curp_msg.specs.Moved.{within}
use Rattle.curp_order.specs.declared.Event.{Event}
use Rattle.curp_model.specs.Backup.{backup_input}
use Rattle.curp_model.specs.Client.{client_input}
use Rattle.curp_model.specs.Manager.{manager_input}
use Rattle.curp_model.specs.Witness.{witness_input}
use Rattle.curp_model.specs.Master.{MasterState, Switch, Switching}
use Rattle.curp_model.specs.Recovery.{MasterStage, Serving, master_input, master_ordered, on_master}
use Rattle.curp_model.specs.World.{World, kept, messages, step, with_master}
use Rattle.curp_facts.specs.Facts.{IsOnlyExpire}
use Rattle.curp_facts.specs.Growth.{IsSilent, PushesLittle}
use Rattle.curp_msg.specs.Script.{IsStep}
use Rattle.curp_facts.specs.Silence.{IsSilentIn, SwitchesOn}
use Rattle.curp_law_kept.specs.Deeds.{IsFor}
use Rattle.curp_law_kept.specs.BackupEffect.{BackupSays}
use Rattle.curp_law_kept.specs.WitnessEffect.{WitnessSays}
use Rattle.curp_law_kept.proofs.Gives.{backup_effect, witness_effect, switching_little, switching_ordered_little, step_grows, ByBackup, ByClient, ByManager, ByMaster, ByWitness, Rests, StepCase, Stays, step_case, client_messages, manager_does, heard_in, input_moves, speaker, stage_from}
use Rattle.curp_base.proofs.Numbered.{numbered_same, numbered_set_same}
use Rattle.curp_law_kept.specs.ManagerEffect.{Uttered}
use Rattle.curp_facts.specs.Known.{Known}
use Rattle.curp_model.proofs.Batches.{all_of-kept}

-- what one master sends by an input that leaves it switching
master_silent : (n : ℕ) (m : MasterState) (s : Switch) → m.phase ≡ Switching s → (given : Input) (k : MasterState) (t : Switch) → (master_input n (Serving m) given).state ≡ Serving k → k.phase ≡ Switching t
    → Each (λ (x : Message). IsSilent x.body) (master_input n (Serving m) given).messages
unfolding on_master master_ordered
master_silent n m s is (input.Local order) k t e switches = (switching_ordered_little n m s is order).silent t (ap (λ (x : MasterState). x.phase) (serving e) ∙ switches)
  where
    serving : {a b : MasterState} → Serving a ≡ Serving b → a ≡ b
    serving e = cc
master_silent n m s is (input.Message x) k t e switches = (switching_little n m s is x.from x.body).silent t (ap (λ (x : MasterState). x.phase) (serving e) ∙ switches)
  where
    serving : {a b : MasterState} → Serving a ≡ Serving b → a ≡ b
    serving e = cc

module _ (w : World) (known : Known w) (x : Step) (its : IsStep x) where
  abbrev v : World
  v = (step w x).world

  serving : {a b : MasterState} → Serving a ≡ Serving b → a ≡ b
  serving e = cc

  pushes : (n : ℕ) (s : SwitchesOn w v n) → Each IsOnlyExpire (drop (length s.before.log) s.after.log)
  pushes n s =
      let g = (step_grows w x).masters n (Serving s.before) s.was in
      let same : g.0 ≡ Serving s.after = numbered_same v.masters n g.0 (Serving s.after) g.1 s.is in
      let little : PushesLittle (Serving s.before) (Serving s.after) = subst (PushesLittle (Serving s.before)) same g.2.little in
      little s.old s.switched

  module _ (n : ℕ) (s : SwitchesOn w v n) (place : ℕ) (m : Message) (late : length (messages w) ≤ place) (at : At (messages v) place m) (from : m.from ≡ master_node n) where
    -- it is one of those that were sent now
    among : (out : List Message) → messages v ≡ messages w ++ out → (j : ℕ) × At out j m
    among out e = elim (at_append_cases (messages w) out place m (subst (λ (ms : List Message). At ms place m) e at)) [
      | inl old ↦ absurd (omega (arith, late, at_within (messages w) place m old))
      | inr new ↦ (new.0, new.2)
    ]

    -- a node that is no master has sent no message of a master
    other : (out : List Message) (mover : NodeId) → messages v ≡ messages w ++ out → Each (λ (y : Message). y.from ≡ mover) out → mover.kind ≢ kind.Master → IsSilent m.body
    other out mover e all apart =
        let a = among out e in
        absurd (apart (ap (λ (y : NodeId). y.kind) (sym (Each-at (λ (y : Message). y.from ≡ mover) out all a.0 m a.1) ∙ from)))

    numbers : {j k : ℕ} → master_node j ≡ master_node k → j ≡ k
    numbers e = ap (λ (y : NodeId). y.number) e

    by_master : (j : ℕ) (given : Input) (old : MasterStage) (here : numbered w.masters j ≡ Some old) (for : IsFor w (master_node j) given) (events : List Event)
        → v ≡ (kept w events (within (with_master w j given old) (master_input j old given))).world → IsSilent m.body
    by_master j given old here for events is =
        let out = (master_input j old given).messages in
        let a = among out (ap messages is ∙ all_of-kept w.sent out) in
        let move = input_moves known j old (record { its_kind = refl; its_state = here }) given for in
        let own = stage_from known j (speaker known j given) (heard_in known j given) old (master_input j old given).state out move in
        let number : j ≡ n = numbers (sym (Each-at (λ (y : Message). y.from ≡ master_node j) out own a.0 m a.1) ∙ from) in
        let before : old ≡ Serving s.before = numbered_same w.masters j old (Serving s.before) here (subst (λ (k : ℕ). numbered w.masters k ≡ Some (Serving s.before)) (sym number) s.was) in
        let now : numbered v.masters j ≡ Some (master_input j old given).state
        = subst (λ (u : World). numbered u.masters j ≡ Some (master_input j old given).state) (sym is) (numbered_set_same w.masters j old (master_input j old given).state here) in
        let after : (master_input j old given).state ≡ Serving s.after = numbered_same v.masters j _ (Serving s.after) now (subst (λ (k : ℕ). numbered v.masters k ≡ Some (Serving s.after)) (sym number) s.is) in
        let silent : Each (λ (y : Message). IsSilent y.body) (master_input j (Serving s.before) given).messages
        = master_silent j s.before s.old s.switched given s.after s.new (subst (λ (o : MasterStage). (master_input j o given).state ≡ Serving s.after) before after) s.switches in
        Each-at (λ (y : Message). IsSilent y.body) out (subst (λ (o : MasterStage). Each (λ (y : Message). IsSilent y.body) (master_input j o given).messages) (sym before) silent) a.0 m a.1

    sends : StepCase w v → IsSilent m.body
    sends (Stays is) = other [] (client_node 0) (ap messages is ∙ sym (append-nil (messages w))) tt (λ e. absurd cc)
    sends (Rests r) = other [] (client_node 0) (ap messages r.is ∙ all_of-kept w.sent []) tt (λ e. absurd cc)
    sends (ByClient j given c here for made key is) =
        other (client_input j c given).messages (client_node j) (ap messages is ∙ all_of-kept w.sent (client_input j c given).messages) (client_messages known j given for c here made) (λ e. absurd cc)
    sends (ByBackup j given b here for events none is) =
        other (backup_input j b given).messages (backup_node j) (ap messages is ∙ all_of-kept w.sent (backup_input j b given).messages)
        (Each-weaker (BackupSays j given (backup_input j b given).state) (λ (y : Message). y.from ≡ backup_node j) (λ y k. k.sender) (backup_input j b given).messages (backup_effect j b given).says) (λ e. absurd cc)
    sends (ByWitness j given y here for events none is) =
        other (witness_input j y given).messages (witness_node j) (ap messages is ∙ all_of-kept w.sent (witness_input j y given).messages)
        (Each-weaker (WitnessSays j given (witness_input j y given).state) (λ (z : Message). z.from ≡ witness_node j) (λ z k. k.sender) (witness_input j y given).messages (witness_effect j y given).says) (λ e. absurd cc)
    sends (ByMaster j given old here for events none is) = by_master j given old here for events is
    sends (ByManager given for events none is) =
        other (manager_input w.manager given).messages manager_node (ap messages is ∙ all_of-kept w.sent (manager_input w.manager given).messages)
        (Each-weaker (Uttered w) (λ (y : Message). y.from ≡ manager_node) (λ y k. k.from) (manager_input w.manager given).messages (manager_does known given for).messages) (λ e. absurd cc)

  -- each step leaves masters that switch silent
  pub is_silent : IsSilentIn w (step w x).world
  is_silent = record { pushes = pushes; sends = λ n s place m late at from. sends n s place m late at from (step_case w known x its) }
