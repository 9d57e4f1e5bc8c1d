-- Every step of every script keeps what nodes and messages keep.
use Rattle.std.proofs.Common.{◌≡◌, ℕ, List, [], ◌∷◌, refl, ap, sym, ◌∙◌, subst, Option, Some, None}
use Rattle.std.specs.Bool.{⊤}
use Rattle.curp_base.specs.Words.{Each, numbered}
use Rattle.curp_cmd.specs.Node.{backup_node, client_node, manager_node, master_node, witness_node}
use Rattle.curp_cmd.specs.declared.command.Command.{Command}
use Rattle.curp_cmd.specs.declared.node.NodeId.{NodeId}
use Rattle.curp_cmd.specs.declared.node.NodeKind.{NodeKind}
use Rattle.curp_cmd.specs.declared.node.NodeKind.TheVariants as kind
use Rattle.curp_msg.specs.Moved.{Moved, quiet, within}
use Rattle.curp_msg.specs.Input.{Input}
use Rattle.curp_msg.specs.Input as input
use Rattle.curp_msg.specs.declared.machine.Local.TheVariants as local
use Rattle.curp_msg.specs.declared.message.Message.{Message}
use Rattle.curp_msg.specs.declared.outcome.StepResult.{StepResult}
use Rattle.curp_msg.specs.declared.outcome.StepResult.TheVariants as result
use Rattle.curp_msg.specs.declared.script.Header.{Header}
use Rattle.curp_msg.specs.declared.script.Step.{Step}
use Rattle.curp_msg.specs.declared.script.Step.TheVariants as steps
use Rattle.curp_order.specs.declared.Event.{Event}
use Rattle.curp_model.specs.Backup.{BackupState, backup_input}
use Rattle.curp_model.specs.Client.{ClientState, client_input}
use Rattle.curp_model.specs.Manager.{adoption}
use Rattle.curp_model.specs.Named.{IsMaster, IsNodeOf}
use Rattle.curp_model.specs.Recovery.{MasterStage, master_input}
use Rattle.curp_model.specs.Witness.{WitnessState, witness_input}
use Rattle.curp_model.specs.World.{World, deed_of, delivery, effect, events_of, invocation_of, kept, messages, moves_kind, moves_one, opening, result_of, run, step, steps_by, with_client, with_backup, with_master, with_witness, world}
use Rattle.curp_facts.specs.Growth.{Grows}
use Rattle.curp_facts.specs.Invariant.{Invariant}
use Rattle.curp_msg.specs.Script.{IsHeader, IsRun, IsStep}
use Rattle.curp_law_kept.specs.Deeds.{IsFor}
use Rattle.curp_law_kept.proofs.Deeds.{done_taken}
use Rattle.curp_facts.specs.Facts.{WasSent}
use Rattle.curp_base.proofs.Numbered.{numbered_set_same, place}
use Rattle.curp_law_kept.proofs.Reached.{grows_steady, reached_steady}
use Rattle.curp_law_kept.proofs.WorldsGrow.{step_grows}
use Rattle.curp_facts.specs.Known.{Known}
use Rattle.curp_law_kept.proofs.Known.{fits}
use Rattle.curp_law_kept.proofs.ManagersKeep.{manager_keeps}
use Rattle.curp_law_kept.proofs.MasterSteps.{master_input_keeps, nothing_keeps}
use Rattle.curp_law_kept.proofs.MastersMoves.{heard_in, input_idle, input_moves, speaker, stage_from}
use Rattle.curp_law_kept.proofs.Opened.{opening_keeps}
use Rattle.curp_law_kept.proofs.Worlds.{backup_world, client_world, other_item, same_history, witness_world}
use Rattle.curp_facts.specs.Names.{Names}
use Rattle.curp_law_kept.proofs.Later.{Later}
use Rattle.curp_law_kept.proofs.OpenedNames.{opening_names, opening_nodes}
use Rattle.curp_law_kept.proofs.OthersNames.{Both}
use Rattle.curp_law_kept.proofs.Runs.{step_goes}
use Rattle.curp_model.proofs.Batches.{all_of-kept}

-- an order to invoke comes to clients alone
abbrev pub Suits : NodeKind → Input → Type 0
Suits kind.Client given = ⊤
Suits k (input.Local (local.Invoke command)) = ⊥
Suits k given = ⊤

-- else nothing is invoked
not_invoked : (to : NodeId) (o : Option ClientState) (given : Input) → ((command : _) → given ≡ input.Local (local.Invoke command) → ⊥) → invocation_of to o given ≡ []
not_invoked to None given other = refl
not_invoked to (Some c) (input.Local (local.Invoke command)) other = absurd (other command refl)
not_invoked to (Some c) (input.Local (local.Retry seq)) other = refl
not_invoked to (Some c) (input.Local local.Fetch) other = refl
not_invoked to (Some c) (input.Local local.Sync) other = refl
not_invoked to (Some c) (input.Local local.Collect) other = refl
not_invoked to (Some c) (input.Local (local.Recover part backup witness)) other = refl
not_invoked to (Some c) (input.Local (local.Replace keeper part place)) other = refl
not_invoked to (Some c) (input.Local (local.Migrate lo hi target)) other = refl
not_invoked to (Some c) (input.Local local.Nudge) other = refl
not_invoked to (Some c) (input.Local (local.Expire client)) other = refl
not_invoked to (Some c) (input.Message m) other = refl

module _ (w : World) (known : Known w) where
  -- what holds of a world that has grown from this one
  abbrev Keeps : World → Type 0
  Keeps v = Grows w v → Later w v → Names v → Invariant v

  -- ---- one input

  abbrev After : (events : List Event) → Moved World → Type 0
  After events moved = Keeps (kept w events moved).world

  nothing : (events : List Event) (moved : Moved World) → events ≡ [] → moved ≡ quiet w → After events moved
  nothing events moved none same = subst (λ (m : Moved World). After events m) (sym same)
      (λ grows later names. nothing_keeps known (all_of-kept w.sent []) refl refl refl refl refl (same_history w.history events None none refl) grows later)

  module _ (n : ℕ) (given : Input) (events : List Event) where
    client_after : IsFor w (client_node n) given → (o : Option ClientState) → numbered w.clients n ≡ o → events ≡ invocation_of (client_node n) o given
        → (moves_one w (λ c. within (with_client w n) (client_input n c given)) o).refused ≡ 0 → After events (moves_one w (λ c. within (with_client w n) (client_input n c given)) o)
    client_after for None is invoked taken = nothing events (quiet w) invoked refl
    client_after for (Some c) is invoked taken = λ grows later names. client_world w known n given events c is for taken invoked grows later

    module _ (none : events ≡ []) where
      backup_after : IsFor w (backup_node n) given → (o : Option BackupState) → numbered w.backups n ≡ o → After events (moves_one w (λ b. within (with_backup w n) (backup_input n b given)) o)
      backup_after for None is = nothing events (quiet w) none refl
      backup_after for (Some b) is = λ grows later names. backup_world w known n given events b is for none grows later

      witness_after : IsFor w (witness_node n) given → (o : Option WitnessState) → numbered w.witnesses n ≡ o → After events (moves_one w (λ x. within (with_witness w n) (witness_input n x given)) o)
      witness_after for None is = nothing events (quiet w) none refl
      witness_after for (Some x) is = λ grows later names. witness_world w known n given events x is for none grows later

      master_after : IsFor w (master_node n) given → (o : Option MasterStage) → numbered w.masters n ≡ o → After events (moves_one w (λ m. within (with_master w n given m) (master_input n m given)) o)
      master_after for None is = nothing events (quiet w) none refl
      master_after for (Some m) is = λ grows later names.
          let was : IsMaster w (master_node n) m = record { its_kind = refl; its_state = is } in
          let move = input_moves known n m was given for in
          master_input_keeps known n m given is for grows later (record {
            sent = all_of-kept w.sent (master_input n m given).messages;
            all = stage_from known n (speaker known n given) (heard_in known n given) m (master_input n m given).state (master_input n m given).messages move;
            not_manager = λ e. kinds (ap (λ (x : NodeId). x.kind) e);
            manager = refl;
            clients = refl;
            history = same_history w.history events (master_input n m given).completed none (input_idle known n m was given for);
          }) (record { its_kind = refl; its_state = numbered_set_same w.masters n m (master_input n m given).state is })
          (λ node x other here. record { its_kind = here.its_kind; its_state = other_item w.masters n m (master_input n m given).state is node.number x (λ e. other (named node here.its_kind e)) here.its_state })
          refl refl
        where
          kinds : kind.Manager ≡ kind.Master → ⊥
          kinds e = cc

          named : (node : NodeId) → node.kind ≡ kind.Master → node.number ≡ n → node ≡ master_node n
          named node p q = ap (λ (k : NodeKind). record { kind = k; number = node.number }) p ∙ ap (λ (x : ℕ). record { kind = kind.Master; number = x }) q

  plain : (k : NodeKind) (g : Input) → Suits k g → (k ≡ kind.Client → ⊥) → (command : Command) → g ≡ input.Local (local.Invoke command) → ⊥
  plain kind.Client g s other command e = other refl
  plain kind.Manager g s other command e = subst (Suits kind.Manager) e s
  plain kind.Master g s other command e = subst (Suits kind.Master) e s
  plain kind.Backup g s other command e = subst (Suits kind.Backup) e s
  plain kind.Witness g s other command e = subst (Suits kind.Witness) e s

  -- what goes into the history before anything completes
  abbrev invoked_at : NodeKind → ℕ → Input → List Event
  invoked_at k n given = invocation_of (record { kind = k; number = n }) (numbered w.clients n) given

  pub none_at : (k : NodeKind) (n : ℕ) (given : Input) → Suits k given → (k ≡ kind.Client → ⊥) → invoked_at k n given ≡ []
  none_at k n given suits other = not_invoked (record { kind = k; number = n }) (numbered w.clients n) given (plain k given suits other)

  -- an input comes to a node
  gives_after : (k : NodeKind) (n : ℕ) (given : Input) → Suits k given → IsFor w (record { kind = k; number = n }) given → (moves_kind w k n given).refused ≡ 0
      → (k ≡ kind.Manager → n ≡ 0) → After (invoked_at k n given) (moves_kind w k n given)
  gives_after kind.Manager n given suits for taken zero_is =
      let at_home : IsFor w manager_node given = subst (λ (x : ℕ). IsFor w (record { kind = kind.Manager; number = x }) given) (zero_is refl) for in
      λ grows later names. manager_keeps known given at_home (adoption w.manager given) (invoked_at kind.Manager n given) (none_at kind.Manager n given suits (λ e. absurd cc)) grows later names
  gives_after kind.Client n given suits for taken zero_is = client_after n given (invoked_at kind.Client n given) for (numbered w.clients n) refl refl taken
  gives_after kind.Master n given suits for taken zero_is = master_after n given (invoked_at kind.Master n given) (none_at kind.Master n given suits (λ e. absurd cc)) for (numbered w.masters n) refl
  gives_after kind.Backup n given suits for taken zero_is = backup_after n given (invoked_at kind.Backup n given) (none_at kind.Backup n given suits (λ e. absurd cc)) for (numbered w.backups n) refl
  gives_after kind.Witness n given suits for taken zero_is = witness_after n given (invoked_at kind.Witness n given) (none_at kind.Witness n given suits (λ e. absurd cc)) for (numbered w.witnesses n) refl

  -- ---- each of the twelve kinds of step

  pub message_suits : (k : NodeKind) (m : Message) → Suits k (input.Message m)
  message_suits kind.Client m = tt
  message_suits kind.Manager m = tt
  message_suits kind.Master m = tt
  message_suits kind.Backup m = tt
  message_suits kind.Witness m = tt

  delivery_after : (number : ℕ) (o : Option Message) → numbered (messages w) number ≡ o → (effect w (delivery o)).refused ≡ 0 → After (events_of w (delivery o)) (effect w (delivery o))
  delivery_after number None is taken = nothing [] (quiet w) refl refl
  delivery_after number (Some m) is taken =
      let p = place (messages w) number m is in
      let sent : WasSent w m = record { place = p.0; stands = p.2 } in
      gives_after m.to.kind m.to.number (input.Message m) (message_suits m.to.kind m) (refl, sent) taken (λ e.
      let a = (fits known m sent).addressee in subst (λ (k : NodeKind). IsNodeOf w k m.to.number) (sym a.0 ∙ e) a.1)

  deed_after : (x : Step) → (effect w (deed_of w x)).refused ≡ 0 → After (events_of w (deed_of w x)) (effect w (deed_of w x))
  deed_after (steps.Deliver number) taken = delivery_after number (numbered (messages w) number) refl taken
  deed_after (steps.Stop node) taken = λ grows later names.
      nothing_keeps known (all_of-kept w.sent []) refl refl refl refl refl (same_history w.history [] None refl refl) grows later
  deed_after (steps.Invoke i command) taken = gives_after kind.Client i (input.Local (local.Invoke command)) tt tt taken (λ e. absurd cc)
  deed_after (steps.Retry i seq) taken = gives_after kind.Client i (input.Local (local.Retry seq)) tt tt taken (λ e. absurd cc)
  deed_after (steps.Fetch i) taken = gives_after kind.Client i (input.Local local.Fetch) tt tt taken (λ e. absurd cc)
  deed_after (steps.Sync i) taken = gives_after kind.Master i (input.Local local.Sync) tt tt taken (λ e. absurd cc)
  deed_after (steps.Collect i) taken = gives_after kind.Master i (input.Local local.Collect) tt tt taken (λ e. absurd cc)
  deed_after (steps.Recover part backup witness) taken = gives_after kind.Manager 0 (input.Local (local.Recover part backup witness)) tt tt taken (λ e. refl)
  deed_after (steps.Replace keeper part place) taken = gives_after kind.Manager 0 (input.Local (local.Replace keeper part place)) tt tt taken (λ e. refl)
  deed_after (steps.Migrate lo hi to) taken = gives_after kind.Manager 0 (input.Local (local.Migrate lo hi to)) tt tt taken (λ e. refl)
  deed_after steps.Nudge taken = gives_after kind.Manager 0 (input.Local local.Nudge) tt tt taken (λ e. refl)
  deed_after (steps.Expire client) taken = gives_after kind.Manager 0 (input.Local (local.Expire client)) tt tt taken (λ e. refl)

  by_result : (x : Step) (r : StepResult) → result_of w x ≡ r → Keeps (steps_by w (deed_of w x) r).world
  by_result x result.Done is = deed_after x (done_taken w x is)
  by_result x result.NoMessage is = λ grows later names. known.inv
  by_result x result.NoNode is = λ grows later names. known.inv
  by_result x result.Manager is = λ grows later names. known.inv
  by_result x result.Gone is = λ grows later names. known.inv
  by_result x (result.Full weight) is = λ grows later names. known.inv
  by_result x (result.Refused number) is = λ grows later names. known.inv

  both : Both w
  both = record { names = known.names; nodes = known.nodes }

  step_invariant : (x : Step) → Keeps (step w x).world
  unfolding step
  step_invariant x = by_result x (result_of w x) refl

  -- all that is known stays so in a step
  pub known_step : (x : Step) → Known (step w x).world
  known_step x =
      let goes = step_goes w both x in
      record {
        names = goes.both.names;
        nodes = goes.both.nodes;
        steady = grows_steady w (step w x).world (step_grows w x) known.steady;
        inv = step_invariant x (step_grows w x) goes.later goes.both.names;
      }

-- ---- runs

-- all that is known holds at opening
pub known_opening : (h : Header) → IsHeader h → Known (opening h)
known_opening h its = record { names = opening_names h its; nodes = opening_nodes h its; steady = reached_steady h []; inv = opening_keeps h its }

-- what a step keeps of a world of which all this is known, and the opening has, each run has
pub along : (P : World → Type 0) → ((w : World) → Known w → (x : Step) → IsStep x → P w → P (step w x).world) → (h : Header) (xs : List Step) → IsRun h xs → P (opening h) → Known (world h xs) × P (world h xs)
along P keeps h xs is first = go xs (opening h) (known_opening h is.header) is.steps_are first
  where
    go : (xs : List Step) (w : World) → Known w → Each IsStep xs → P w → Known (run w xs) × P (run w xs)
    go [] w known are p = (known, p)
    go (x ∷ xs) w known are p = go xs (step w x).world (known_step w known x) are.1 (keeps w known x are.0 p)

-- all that is known holds in every run
pub known_all : (h : Header) (xs : List Step) → IsRun h xs → Known (world h xs)
known_all h xs is = (along (λ w. ⊤) (λ w known x it p. tt) h xs is tt).0
