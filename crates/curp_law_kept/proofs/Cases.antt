-- What a step does, by the node that it gives an input.
use Rattle.std.proofs.Common.{◌≡◌, ℕ, List, [], ◌∷◌, ◌++◌, refl, sym, ◌∙◌, subst, Option, Some, None}
use Rattle.std.specs.Bool.{⊤}
use Rattle.curp_base.specs.Words.{numbered}
use Rattle.curp_cmd.specs.Node.{backup_node, client_node, manager_node, master_node, witness_node}
use Rattle.curp_cmd.specs.declared.node.NodeId.{NodeId}
use Rattle.curp_cmd.specs.declared.node.NodeKind.{NodeKind}
use Rattle.curp_cmd.specs.declared.node.NodeKind.TheVariants as kind
use Rattle.curp_msg.specs.Moved.{Moved, quiet, within}
use Rattle.curp_msg.specs.Input.{Input}
use Rattle.curp_msg.specs.Input as input
use Rattle.curp_msg.specs.declared.machine.Local.TheVariants as local
use Rattle.curp_msg.specs.declared.message.Message.{Message}
use Rattle.curp_msg.specs.declared.outcome.StepResult.{StepResult}
use Rattle.curp_msg.specs.declared.outcome.StepResult.TheVariants as result
use Rattle.curp_msg.specs.declared.script.Step.{Step}
use Rattle.curp_msg.specs.declared.script.Step.TheVariants as steps
use Rattle.curp_order.specs.declared.Event.{Event}
use Rattle.curp_model.specs.Backup.{BackupState, backup_input}
use Rattle.curp_model.specs.Client.{ClientState, client_input}
use Rattle.curp_model.specs.Manager.{adoption, manager_input}
use Rattle.curp_model.specs.Named.{IsNodeOf}
use Rattle.curp_model.specs.Recovery.{MasterStage, master_input}
use Rattle.curp_model.specs.Witness.{WitnessState, witness_input}
use Rattle.curp_model.specs.World.{World, delivery, deed_of, effect, events_of, invocation_of, kept, messages, moves_kind, moves_one, result_of, step, steps_by, with_backup, with_client, with_manager, with_master, with_witness}
use Rattle.curp_facts.specs.Facts.{WasSent}
use Rattle.curp_msg.specs.Script.{IsStep}
use Rattle.curp_cmd.specs.Store.{NamesKey}
use Rattle.curp_law_kept.specs.Deeds.{IsFor}
use Rattle.curp_law_kept.proofs.Deeds.{done_taken}
use Rattle.curp_base.proofs.Numbered.{place}
use Rattle.curp_facts.specs.Known.{Known}
use Rattle.curp_law_kept.proofs.Known.{fits}
use Rattle.curp_law_kept.proofs.Steps.{Suits, message_suits, none_at}

-- a command that the input invokes names a key
abbrev pub InvokesKey : Input → Type 0
InvokesKey (input.Local (local.Invoke command)) = NamesKey command
InvokesKey given = ⊤

-- nothing but what is stopped changes
pub record RestsIn (w v : World) : Type 0 where
  pub stopped : List NodeId
  pub is : v ≡ (kept w [] (quiet (record w { stopped = stopped }))).world

-- what a step has done: nothing, or an input to one node
pub data StepCase (w v : World) : Type 0 where
  Stays : v ≡ w → StepCase w v
  Rests : RestsIn w v → StepCase w v
  ByClient : (n : ℕ) (given : Input) (c : ClientState) → numbered w.clients n ≡ Some c → IsFor w (client_node n) given → (client_input n c given).refused ≡ 0 → InvokesKey given
      → v ≡ (kept w (invocation_of (client_node n) (Some c) given) (within (with_client w n) (client_input n c given))).world → StepCase w v
  ByBackup : (n : ℕ) (given : Input) (b : BackupState) → numbered w.backups n ≡ Some b → IsFor w (backup_node n) given → (events : List Event) → events ≡ []
      → v ≡ (kept w events (within (with_backup w n) (backup_input n b given))).world → StepCase w v
  ByWitness : (n : ℕ) (given : Input) (x : WitnessState) → numbered w.witnesses n ≡ Some x → IsFor w (witness_node n) given → (events : List Event) → events ≡ []
      → v ≡ (kept w events (within (with_witness w n) (witness_input n x given))).world → StepCase w v
  ByMaster : (n : ℕ) (given : Input) (m : MasterStage) → numbered w.masters n ≡ Some m → IsFor w (master_node n) given → (events : List Event) → events ≡ []
      → v ≡ (kept w events (within (with_master w n given m) (master_input n m given))).world → StepCase w v
  ByManager : (given : Input) → IsFor w manager_node given → (events : List Event) → events ≡ []
      → v ≡ (kept w events (within (with_manager w (adoption w.manager given)) (manager_input w.manager given))).world → StepCase w v

module _ (w : World) (known : Known w) where
  abbrev Case : List Event → Moved World → Type 0
  Case events moved = StepCase w (kept w events moved).world

  rests : (events : List Event) → events ≡ [] → Case events (quiet w)
  rests events none = subst (λ (es : List Event). Case es (quiet w)) (sym none) (Rests (record { stopped = w.stopped; is = refl }))

  client_case : (n : ℕ) (given : Input) → IsFor w (client_node n) given → InvokesKey given → (o : Option ClientState) → numbered w.clients n ≡ o
      → (moves_one w (λ c. within (with_client w n) (client_input n c given)) o).refused ≡ 0 → Case (invocation_of (client_node n) o given) (moves_one w (λ c. within (with_client w n) (client_input n c given)) o)
  client_case n given for key None is taken = rests [] refl
  client_case n given for key (Some c) is taken = ByClient n given c is for taken key refl

  module _ (n : ℕ) (given : Input) (events : List Event) (none : events ≡ []) where
    backup_case : IsFor w (backup_node n) given → (o : Option BackupState) → numbered w.backups n ≡ o → Case events (moves_one w (λ b. within (with_backup w n) (backup_input n b given)) o)
    backup_case for None is = rests events none
    backup_case for (Some b) is = ByBackup n given b is for events none refl

    witness_case : IsFor w (witness_node n) given → (o : Option WitnessState) → numbered w.witnesses n ≡ o → Case events (moves_one w (λ x. within (with_witness w n) (witness_input n x given)) o)
    witness_case for None is = rests events none
    witness_case for (Some x) is = ByWitness n given x is for events none refl

    master_case : IsFor w (master_node n) given → (o : Option MasterStage) → numbered w.masters n ≡ o → Case events (moves_one w (λ m. within (with_master w n given m) (master_input n m given)) o)
    master_case for None is = rests events none
    master_case for (Some m) is = ByMaster n given m is for events none refl

  gives_case : (k : NodeKind) (n : ℕ) (given : Input) → Suits k given → InvokesKey given → IsFor w (record { kind = k; number = n }) given → (moves_kind w k n given).refused ≡ 0
      → (k ≡ kind.Manager → n ≡ 0) → Case (invocation_of (record { kind = k; number = n }) (numbered w.clients n) given) (moves_kind w k n given)
  gives_case kind.Manager n given suits key for taken zero_is =
      ByManager given (subst (λ (x : ℕ). IsFor w (record { kind = kind.Manager; number = x }) given) (zero_is refl) for)
      (invocation_of (record { kind = kind.Manager; number = n }) (numbered w.clients n) given) (none_at w known kind.Manager n given suits (λ e. absurd cc)) refl
  gives_case kind.Client n given suits key for taken zero_is = client_case n given for key (numbered w.clients n) refl taken
  gives_case kind.Master n given suits key for taken zero_is =
      master_case n given (invocation_of (master_node n) (numbered w.clients n) given) (none_at w known kind.Master n given suits (λ e. absurd cc)) for (numbered w.masters n) refl
  gives_case kind.Backup n given suits key for taken zero_is =
      backup_case n given (invocation_of (backup_node n) (numbered w.clients n) given) (none_at w known kind.Backup n given suits (λ e. absurd cc)) for (numbered w.backups n) refl
  gives_case kind.Witness n given suits key for taken zero_is =
      witness_case n given (invocation_of (witness_node n) (numbered w.clients n) given) (none_at w known kind.Witness n given suits (λ e. absurd cc)) for (numbered w.witnesses n) refl

  delivery_case : (number : ℕ) (o : Option Message) → numbered (messages w) number ≡ o → (effect w (delivery o)).refused ≡ 0 → Case (events_of w (delivery o)) (effect w (delivery o))
  delivery_case number None is taken = rests [] refl
  delivery_case number (Some m) is taken =
      let p = place (messages w) number m is in
      let sent : WasSent w m = record { place = p.0; stands = p.2 } in
      gives_case m.to.kind m.to.number (input.Message m) (message_suits w known m.to.kind m) tt (refl, sent) taken
      (λ e. let a = (fits known m sent).addressee in subst (λ (k : NodeKind). IsNodeOf w k m.to.number) (sym a.0 ∙ e) a.1)

  deed_case : (x : Step) → IsStep x → (effect w (deed_of w x)).refused ≡ 0 → Case (events_of w (deed_of w x)) (effect w (deed_of w x))
  deed_case (steps.Deliver number) its taken = delivery_case number (numbered (messages w) number) refl taken
  deed_case (steps.Stop node) its taken = Rests (record { stopped = w.stopped ++ node ∷ []; is = refl })
  deed_case (steps.Invoke i command) its taken = gives_case kind.Client i (input.Local (local.Invoke command)) tt its tt taken (λ e. absurd cc)
  deed_case (steps.Retry i seq) its taken = gives_case kind.Client i (input.Local (local.Retry seq)) tt tt tt taken (λ e. absurd cc)
  deed_case (steps.Fetch i) its taken = gives_case kind.Client i (input.Local local.Fetch) tt tt tt taken (λ e. absurd cc)
  deed_case (steps.Sync i) its taken = gives_case kind.Master i (input.Local local.Sync) tt tt tt taken (λ e. absurd cc)
  deed_case (steps.Collect i) its taken = gives_case kind.Master i (input.Local local.Collect) tt tt tt taken (λ e. absurd cc)
  deed_case (steps.Recover part backup witness) its taken = gives_case kind.Manager 0 (input.Local (local.Recover part backup witness)) tt tt tt taken (λ e. refl)
  deed_case (steps.Replace keeper part place) its taken = gives_case kind.Manager 0 (input.Local (local.Replace keeper part place)) tt tt tt taken (λ e. refl)
  deed_case (steps.Migrate lo hi to) its taken = gives_case kind.Manager 0 (input.Local (local.Migrate lo hi to)) tt tt tt taken (λ e. refl)
  deed_case steps.Nudge its taken = gives_case kind.Manager 0 (input.Local local.Nudge) tt tt tt taken (λ e. refl)
  deed_case (steps.Expire client) its taken = gives_case kind.Manager 0 (input.Local (local.Expire client)) tt tt tt taken (λ e. refl)

  by_result : (x : Step) → IsStep x → (r : StepResult) → result_of w x ≡ r → StepCase w (steps_by w (deed_of w x) r).world
  by_result x its result.Done is = deed_case x its (done_taken w x is)
  by_result x its result.NoMessage is = Stays refl
  by_result x its result.NoNode is = Stays refl
  by_result x its result.Manager is = Stays refl
  by_result x its result.Gone is = Stays refl
  by_result x its (result.Full weight) is = Stays refl
  by_result x its (result.Refused number) is = Stays refl

  -- a step does nothing, or gives one node an input
  pub step_case : (x : Step) → IsStep x → StepCase w (step w x).world
  unfolding step
  step_case x its = by_result x its (result_of w x) refl
