-- In each step the manager has got an input, or stays as it is.
use Rattle.std.proofs.Common.{◌≡◌, ◌≢◌, ℕ, List, [], append-nil, refl, sym, ◌∙◌, ap, subst, Option, Some, None}
use Rattle.std.specs.Prelude.{⊤}
use Rattle.curp_base.specs.Words.{Each, numbered}
use Rattle.curp_base.proofs.Lists.{Each-weaker}
use Rattle.curp_cmd.specs.Node.{backup_node, client_node, manager_node, master_node, witness_node}
use Rattle.curp_cmd.specs.declared.node.NodeId.{NodeId}
use Rattle.curp_cmd.specs.declared.node.NodeKind.{NodeKind}
use Rattle.curp_cmd.specs.declared.node.NodeKind.TheVariants as kind
use Rattle.curp_msg.specs.Moved.{Moved, quiet}
use Rattle.curp_msg.specs.Input.{Input}
use Rattle.curp_msg.specs.Input as input
use Rattle.curp_msg.specs.declared.machine.Local.TheVariants as local
use Rattle.curp_msg.specs.declared.message.Message.{Message}
use Rattle.curp_msg.specs.declared.outcome.StepResult.{StepResult}
use Rattle.curp_msg.specs.declared.outcome.StepResult.TheVariants as result
use Rattle.curp_msg.specs.declared.script.Step.{Step}
use Rattle.curp_msg.specs.declared.script.Step.TheVariants as steps
use Rattle.curp_order.specs.declared.Event.{Event}
use Rattle.curp_model.specs.Backup.{backup_input}
use Rattle.curp_model.specs.Client.{client_input}
use Rattle.curp_model.specs.Manager.{adoption}
use Rattle.curp_model.specs.Recovery.{master_input}
use Rattle.curp_model.specs.Witness.{witness_input}
use Rattle.curp_model.specs.World.{World, deed_of, delivery, effect, events_of, kept, messages, moves_kind, moves_one, result_of, step, steps_by}
use Rattle.curp_facts.specs.Facts.{IsAmong}
use Rattle.curp_law_kept.specs.Deeds as deeds
use Rattle.curp_facts.specs.Names.{IsOf}
use Rattle.curp_facts.specs.Fits.{MessageFits}
use Rattle.curp_law_kept.proofs.Gives.{Arrives, client_fits, is_manager, AllSaid, InputFits, Said, backup_fits, witness_fits, among_each, named, Both, IsForMaster, master_fits}
use Rattle.curp_law_runs.specs.Steps.{ByManager, ByOther, ManagerMoves}
use Rattle.curp_base.proofs.Numbered.{place, number_within}
use Rattle.curp_model.proofs.Batches.{all_of-kept}

-- an input is for a node
abbrev IsFor : NodeKind → ℕ → Input → Type 0
IsFor k i (input.Local order) = ⊤
IsFor k i (input.Message m) = m.to ≡ named k i

-- a node of another kind isn't the manager
apart : (me : NodeId) → (kind.Manager ≡ me.kind → ⊥) → manager_node ≢ me
apart me other e = other (ap (λ (n : NodeId). n.kind) e)

-- what comes to the manager is for it
for_the_manager : (w : World) (m : Message) → MessageFits w m → m.to.kind ≡ kind.Manager → m.to ≡ manager_node
for_the_manager w m fits is = is_manager w m.to (subst (λ (k : NodeKind). IsOf w k m.to) (sym fits.addressee.0 ∙ is) fits.addressee)

-- all that is said is said by one node
all_from : (w : World) (me : NodeId) (out : List Message) → AllSaid w me out → Each (λ (m : Message). m.from ≡ me) out
all_from w me out all = Each-weaker (Said w me) (λ (m : Message). m.from ≡ me) (λ (m : Message) s. s.from) out all

module _ (w : World) (both : Both w) (events : List Event) where
  message_comes : (given : Input) → Arrives w given → InputFits w given
  message_comes (input.Local order) comes = tt
  message_comes (input.Message m) comes = comes.0

  for_master : (i : ℕ) (given : Input) → IsFor kind.Master i given → IsForMaster i given
  for_master i (input.Local order) here = tt
  for_master i (input.Message m) here = here

  for_manager : (i : ℕ) (given : Input) → Arrives w given → IsFor kind.Manager i given → deeds.IsFor w manager_node given
  for_manager i (input.Local order) comes here = tt
  for_manager i (input.Message m) comes here = (for_the_manager w m comes.0 (ap (λ (n : NodeId). n.kind) here), comes.1)

  nothing : ManagerMoves w (kept w events (quiet w)).world
  nothing = ByOther (kept w events (quiet w)).world (record { out = []; mover = client_node 1; sent = all_of-kept w.sent []; all = tt; not_manager = apart (client_node 1) (λ k. absurd cc); manager = refl })

  by_one : {S : Type 0} (move : S → Moved World) (o : Option S) → ((x : S) → o ≡ Some x → ManagerMoves w (kept w events (move x)).world) → ManagerMoves w (kept w events (moves_one w move o)).world
  by_one move None moves = nothing
  by_one move (Some x) moves = moves x refl

  -- an input comes to a node
  input_moves : (k : NodeKind) (i : ℕ) (given : Input) → Arrives w given → IsFor k i given → ManagerMoves w (kept w events (moves_kind w k i given)).world
  input_moves kind.Manager i given comes here = ByManager given (adoption w.manager given) events (for_manager i given comes here)
  input_moves kind.Client i given comes here = by_one _ (numbered w.clients i) (λ c at.
      let r = client_fits w both.names i (number_within w.clients i c at) c (both.nodes.clients i c at) given comes in
      let out = (client_input i c given).messages in
      ByOther _ (record { out = out; mover = client_node i; sent = all_of-kept w.sent out; all = all_from w (client_node i) out r.1; not_manager = apart (client_node i) (λ k. absurd cc); manager = refl }))
  input_moves kind.Master i given comes here = by_one _ (numbered w.masters i) (λ m at.
      let r = master_fits w both.names i (number_within w.masters i m at) m (both.nodes.masters i m at) given comes (for_master i given here) in
      let out = (master_input i m given).messages in
      ByOther _ (record { out = out; mover = master_node i; sent = all_of-kept w.sent out; all = all_from w (master_node i) out r.1; not_manager = apart (master_node i) (λ k. absurd cc); manager = refl }))
  input_moves kind.Backup i given comes here = by_one _ (numbered w.backups i) (λ x at.
      let r = backup_fits w i (number_within w.backups i x at) x (both.nodes.backups i x at) given (message_comes given comes) in
      let out = (backup_input i x given).messages in
      ByOther _ (record { out = out; mover = backup_node i; sent = all_of-kept w.sent out; all = all_from w (backup_node i) out r.1; not_manager = apart (backup_node i) (λ k. absurd cc); manager = refl }))
  input_moves kind.Witness i given comes here = by_one _ (numbered w.witnesses i) (λ x at.
      let r = witness_fits w i (number_within w.witnesses i x at) x (both.nodes.witnesses i x at) given (message_comes given comes) in
      let out = (witness_input i x given).messages in
      ByOther _ (record { out = out; mover = witness_node i; sent = all_of-kept w.sent out; all = all_from w (witness_node i) out r.1; not_manager = apart (witness_node i) (λ k. absurd cc); manager = refl }))

-- ---- steps

module _ (w : World) (both : Both w) where
  delivery_moves : (number : ℕ) (o : Option Message) → numbered (messages w) number ≡ o → (events : List Event) → ManagerMoves w (kept w events (effect w (delivery o))).world
  delivery_moves number None at events = nothing w both events
  delivery_moves number (Some m) at events =
      let p = place (messages w) number m at in
      let sent : IsAmong m (messages w) = record { place = p.0; stands = p.2 } in
      input_moves w both events m.to.kind m.to.number (input.Message m) (among_each (MessageFits w) (messages w) both.nodes.said m sent, record { place = p.0; stands = p.2 }) refl

  deed_moves : (x : Step) (events : List Event) → ManagerMoves w (kept w events (effect w (deed_of w x))).world
  deed_moves (steps.Deliver number) events = delivery_moves number (numbered (messages w) number) refl events
  deed_moves (steps.Stop node) events = ByOther _ (record { out = []; mover = client_node 1; sent = all_of-kept w.sent []; all = tt; not_manager = apart (client_node 1) (λ k. absurd cc); manager = refl })
  deed_moves (steps.Invoke i command) events = input_moves w both events kind.Client i (input.Local (local.Invoke command)) tt tt
  deed_moves (steps.Retry i seq) events = input_moves w both events kind.Client i (input.Local (local.Retry seq)) tt tt
  deed_moves (steps.Fetch i) events = input_moves w both events kind.Client i (input.Local local.Fetch) tt tt
  deed_moves (steps.Sync i) events = input_moves w both events kind.Master i (input.Local local.Sync) tt tt
  deed_moves (steps.Collect i) events = input_moves w both events kind.Master i (input.Local local.Collect) tt tt
  deed_moves (steps.Recover part backup witness) events = input_moves w both events kind.Manager 0 (input.Local (local.Recover part backup witness)) tt tt
  deed_moves (steps.Replace keeper part spot) events = input_moves w both events kind.Manager 0 (input.Local (local.Replace keeper part spot)) tt tt
  deed_moves (steps.Migrate lo hi to) events = input_moves w both events kind.Manager 0 (input.Local (local.Migrate lo hi to)) tt tt
  deed_moves steps.Nudge events = input_moves w both events kind.Manager 0 (input.Local local.Nudge) tt tt
  deed_moves (steps.Expire client) events = input_moves w both events kind.Manager 0 (input.Local (local.Expire client)) tt tt

  by_result : (x : Step) (why : StepResult) → ManagerMoves w (steps_by w (deed_of w x) why).world
  by_result x result.Done = deed_moves x (events_of w (deed_of w x))
  by_result x _ = ByOther w (record { out = []; mover = client_node 1; sent = sym (append-nil (messages w)); all = tt; not_manager = apart (client_node 1) (λ k. absurd cc); manager = refl })

  -- each step is one or the other
  pub step_moves : (x : Step) → ManagerMoves w (step w x).world
  unfolding step
  step_moves x = by_result x (result_of w x)
