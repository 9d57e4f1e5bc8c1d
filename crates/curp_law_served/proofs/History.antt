-- What the history of a served run has: the commands in turn, each with its answer, and the one that is being served.
use Rattle.std.proofs.Common.{◌≡◌, ℕ, zero, suc, ◌+◌, not, cond, Bool, true, false, List, [], ◌∷◌, ◌++◌, length, set, Option, Some, None, append-nil, append_assoc, refl, ap, sym, ◌∙◌, subst}
use Rattle.std.specs.Bool.{⊤}
use Rattle.curp_base.specs.Words.{first_of, numbered}
use Rattle.curp_cmd.specs.RequestId.{same_id}
use Rattle.curp_cmd.specs.declared.command.Answer.{Answer}
use Rattle.curp_cmd.specs.declared.command.Command.{Command}
use Rattle.curp_cmd.specs.declared.command.RequestId.{RequestId}
use Rattle.curp_cmd.specs.declared.node.NodeId.{NodeId}
use Rattle.curp_cmd.specs.declared.node.NodeKind.{NodeKind}
use Rattle.curp_cmd.specs.declared.node.NodeKind.TheVariants as kind
use Rattle.curp_cmd.proofs.Ids.{same_id-self}
use Rattle.curp_msg.specs.Moved.{Moved, quiet, within}
use Rattle.curp_msg.specs.declared.machine.Completed.{Completed}
use Rattle.curp_msg.specs.Input.{Input}
use Rattle.curp_msg.specs.Input as input
use Rattle.curp_msg.specs.declared.machine.Local.TheVariants as local
use Rattle.curp_msg.specs.declared.message.Message.{Message}
use Rattle.curp_msg.specs.declared.outcome.StepResult.{StepResult}
use Rattle.curp_msg.specs.declared.outcome.StepResult.TheVariants as result
use Rattle.curp_msg.specs.declared.script.Step.{Step}
use Rattle.curp_msg.specs.declared.script.Step.TheVariants as steps
use Rattle.curp_order.specs.declared.Event.{Event}
use Rattle.curp_order.specs.declared.Event.TheVariants.{Complete, Invoke}
use Rattle.curp_facts.specs.Known.{Known}
use Rattle.curp_model.specs.Backup.{BackupState, backup_input}
use Rattle.curp_model.specs.Client.{ClientState, Pending, client_input, client_ordered, on_client, replaced, with_id, without_id}
use Rattle.curp_model.specs.Manager.{adoption, manager_input}
use Rattle.curp_model.specs.Recovery.{MasterStage, master_input}
use Rattle.curp_model.specs.Witness.{WitnessState, witness_input}
use Rattle.curp_model.specs.World.{Deed, Gives, Nothing, Stepped, Stops, World, completion, deed_of, delivery, effect, events_of, invocation_of, kept, messages, moves_kind, moves_one, result_of, step, steps_by, with_backup, with_client, with_manager, with_master, with_witness}
use Rattle.curp_law_kept.specs.Deeds.{IsFor, IsMeant}
use Rattle.curp_law_kept.proofs.Gives.{deed_meant, backup_effect, witness_effect, input_idle}
use Rattle.curp_law_served.specs.Served.{AnsweredRequest, answer_by, in_turn}
use Rattle.curp_law_served.proofs.Clients.{Changes, Completes, Hears, Keeps, client_told}
use Rattle.curp_law_served.proofs.Followed.{Follows, IsServedStep, served_input}
use Rattle.curp_law_served.proofs.Managers.{IsServed, manager_goes}

-- ---- what is told of a command

-- Behind so many requests in turn, the next one, of that id, isn't invoked yet, waits, or has its answer. The client has used as many
-- numbers, or one more
pub data Tells (w : World) (xs : List AnsweredRequest) (id : RequestId) (command : Command) : Option Answer → Type 0 where
  Unasked : (cl : ClientState) → w.clients ≡ cl ∷ [] → cl.pending ≡ [] → cl.last ≡ length xs → w.history ≡ in_turn xs
      → Tells w xs id command None
  Waits : (cl : ClientState) → w.clients ≡ cl ∷ [] → (p : Pending) → cl.pending ≡ p ∷ [] → p.request.id ≡ id
      → cl.last ≡ length xs + 1
      → w.history ≡ in_turn xs ++ Invoke id command ∷ [] → Tells w xs id command None
  Has : (cl : ClientState) → w.clients ≡ cl ∷ [] → cl.pending ≡ [] → cl.last ≡ length xs + 1 → (a : Answer)
      → w.history ≡ in_turn (xs ++ (id, command, a) ∷ [])
      → Tells w xs id command (Some a)

pub in_turn_push : (xs : List AnsweredRequest) (id : RequestId) (command : Command) (a : Answer)
    → in_turn xs ++ Invoke id command ∷ Complete id a ∷ [] ≡ in_turn (xs ++ (id, command, a) ∷ [])
in_turn_push [] id command a = refl
in_turn_push (x ∷ xs) id command a = ap (λ (es : List Event). Invoke x.0 x.1 ∷ Complete x.0 x.2 ∷ es) (in_turn_push xs id command a)

-- ---- what a step does to clients and history

-- nothing, or what a message does to the only client
data HistoryGoes (w : World) (cl : ClientState) (k : Stepped) : Type 0 where
  Rests : k.world.clients ≡ cl ∷ [] → k.world.history ≡ w.history → k.outcome.completed ≡ None → HistoryGoes w cl k
  Heard : (x : Message) → k.world.clients ≡ (on_client 1 cl x.from x.body).state ∷ []
      → k.world.history ≡ w.history ++ completion (on_client 1 cl x.from x.body).completed
      → k.outcome.completed ≡ (on_client 1 cl x.from x.body).completed → HistoryGoes w cl k

-- it invokes nothing
abbrev pub InvokesNone : Step → Type 0
InvokesNone (steps.Invoke n command) = ⊥
InvokesNone _ = ⊤

-- nor does what it gives
abbrev IsLater : Input → Type 0
IsLater (input.Local (local.Invoke command)) = ⊥
IsLater _ = ⊤

no_events : (to : NodeId) (o : Option ClientState) (given : Input) → IsServed given → IsLater given
    → invocation_of to o given ≡ []
no_events to None given its later = refl
no_events to (Some c) (input.Message m) its later = refl
no_events to (Some c) (input.Local (local.Invoke command)) its later = absurd later
no_events to (Some c) (input.Local local.Fetch) its later = refl
no_events to (Some c) (input.Local local.Sync) its later = refl
no_events to (Some c) (input.Local local.Collect) its later = refl
no_events to (Some c) (input.Local (local.Recover part backup witness)) its later = refl
no_events to (Some c) (input.Local (local.Retry seq)) its later = absurd its
no_events to (Some c) (input.Local (local.Replace keeper part place)) its later = absurd its
no_events to (Some c) (input.Local (local.Migrate lo hi target)) its later = absurd its
no_events to (Some c) (input.Local local.Nudge) its later = absurd its
no_events to (Some c) (input.Local (local.Expire client)) its later = absurd its

module _ {w : World} (known : Known w) (f n : ℕ) (follows : Follows f w n) (cl : ClientState)
    (client : w.clients ≡ cl ∷ []) where
  -- where nothing is invoked and nothing completes
  idle : (events : List Event) (moved : Moved World) → events ≡ [] → moved.state.clients ≡ cl ∷ []
      → moved.state.history ≡ w.history → moved.completed ≡ None → HistoryGoes w cl (kept w events moved)
  idle events moved none clients history completes =
      Rests clients
      (ap (λ (es : List Event). (w.history ++ es) ++ completion moved.completed) none ∙ ap (λ (o : Option Completed). (w.history ++ []) ++ completion o) completes ∙ append-nil (w.history ++ []) ∙ append-nil w.history)
      completes

  by_client : (k : ℕ) (given : Input) (events : List Event) → events ≡ [] → IsServed given → IsLater given
      → (o : Option ClientState) → numbered w.clients k ≡ o
      → HistoryGoes w cl (kept w events (moves_one w (λ c. within (with_client w k) (client_input k c given)) o))
  unfolding client_ordered
  by_client k given events none its later None is = idle events (quiet w) none client refl refl
  by_client k given events none its later (Some c) is = one k c (subst (λ (cs : List ClientState). numbered cs k ≡ Some c) client is)
    where
      heard : (g : Input) → IsServed g → IsLater g
          → HistoryGoes w cl (kept w events (within (with_client w 1) (client_input 1 cl g)))
      heard (input.Message x) its later = Heard x (ap (λ (cs : List ClientState). set cs 0 (on_client 1 cl x.from x.body).state) client)
          (ap (λ (es : List Event). (w.history ++ es) ++ completion (on_client 1 cl x.from x.body).completed) none ∙ ap (λ (es : List Event). es ++ completion (on_client 1 cl x.from x.body).completed) (append-nil w.history))
          refl
      heard (input.Local local.Fetch) its later = idle events (within (with_client w 1) (client_input 1 cl (input.Local local.Fetch))) none (ap (λ (cs : List ClientState). set cs 0 cl) client) refl refl
      heard (input.Local local.Sync) its later = idle events (within (with_client w 1) (client_input 1 cl (input.Local local.Sync))) none (ap (λ (cs : List ClientState). set cs 0 cl) client) refl refl
      heard (input.Local local.Collect) its later = idle events (within (with_client w 1) (client_input 1 cl (input.Local local.Collect))) none (ap (λ (cs : List ClientState). set cs 0 cl) client) refl refl
      heard (input.Local (local.Recover part backup witness)) its later = idle events (within (with_client w 1) (client_input 1 cl (input.Local (local.Recover part backup witness)))) none (ap (λ (cs : List ClientState). set cs 0 cl) client) refl refl
      heard (input.Local (local.Invoke command)) its later = absurd later
      heard (input.Local (local.Retry seq)) its later = absurd its
      heard (input.Local (local.Replace keeper part place)) its later = absurd its
      heard (input.Local (local.Migrate lo hi target)) its later = absurd its
      heard (input.Local local.Nudge) its later = absurd its
      heard (input.Local (local.Expire gone)) its later = absurd its

      one : (k : ℕ) (c : ClientState) → numbered (cl ∷ []) k ≡ Some c
          → HistoryGoes w cl (kept w events (within (with_client w k) (client_input k c given)))
      one zero c e = absurd cc
      one (suc zero) c e = (let same : cl ≡ c = cc in subst (λ (d : ClientState). HistoryGoes w cl (kept w events (within (with_client w 1) (client_input 1 d given)))) same (heard given its later))
      one (suc (suc j)) c e = absurd cc

  gives : (k : NodeKind) (i : ℕ) (given : Input) (events : List Event) → events ≡ [] → IsServed given → IsLater given
      → IsFor w (record { kind = k; number = i }) given → HistoryGoes w cl (kept w events (moves_kind w k i given))
  gives kind.Manager i given events none its later for =
      idle events (within (with_manager w (adoption w.manager given)) (manager_input w.manager given)) none client refl (manager_goes w.manager follows.still given its).idle
  gives kind.Client i given events none its later for = by_client i given events none its later (numbered w.clients i) refl
  gives kind.Master i given events none its later for = master (numbered w.masters i) refl
    where
      master : (o : Option MasterStage) → numbered w.masters i ≡ o
          → HistoryGoes w cl (kept w events (moves_one w (λ m. within (with_master w i given m) (master_input i m given)) o))
      master None is = idle events (quiet w) none client refl refl
      master (Some m) is = idle events (within (with_master w i given m) (master_input i m given)) none client refl (input_idle known i m (record { its_kind = refl; its_state = is }) given for)
  gives kind.Backup i given events none its later for = backup (numbered w.backups i)
    where
      backup : (o : Option BackupState)
          → HistoryGoes w cl (kept w events (moves_one w (λ b. within (with_backup w i) (backup_input i b given)) o))
      backup None = idle events (quiet w) none client refl refl
      backup (Some b) = idle events (within (with_backup w i) (backup_input i b given)) none client refl (backup_effect i b given).idle
  gives kind.Witness i given events none its later for = witness (numbered w.witnesses i)
    where
      witness : (o : Option WitnessState)
          → HistoryGoes w cl (kept w events (moves_one w (λ x. within (with_witness w i) (witness_input i x given)) o))
      witness None = idle events (quiet w) none client refl refl
      witness (Some x) = idle events (within (with_witness w i) (witness_input i x given)) none client refl (witness_effect i x given).idle

  later_input : (s : Step) → InvokesNone s → (to : NodeId) (given : Input) → deed_of w s ≡ Gives to given
      → IsLater given
  later_input s none to given e = by s none given e
    where
      by : (s : Step) → InvokesNone s → (given : Input) → deed_of w s ≡ Gives to given → IsLater given
      by (steps.Invoke i command) none given e = absurd none
      by s none (input.Message m) e = tt
      by s none (input.Local local.Fetch) e = tt
      by s none (input.Local local.Sync) e = tt
      by s none (input.Local local.Collect) e = tt
      by s none (input.Local (local.Recover part backup witness)) e = tt
      by s none (input.Local (local.Retry seq)) e = tt
      by s none (input.Local (local.Replace keeper part place)) e = tt
      by s none (input.Local (local.Migrate lo hi target)) e = tt
      by s none (input.Local local.Nudge) e = tt
      by s none (input.Local (local.Expire gone)) e = tt
      by s none (input.Local (local.Invoke command)) e = not_invoked s none e
        where
          not_invoked : (s : Step) → InvokesNone s → deed_of w s ≡ Gives to (input.Local (local.Invoke command)) → ⊥
          not_invoked (steps.Deliver number) none e = no_delivery (numbered (messages w) number) e
            where
              no_delivery : (o : Option Message) → delivery o ≡ Gives to (input.Local (local.Invoke command)) → ⊥
              no_delivery None e = cc
              no_delivery (Some m) e = cc
          not_invoked (steps.Invoke i c) none e = none
          not_invoked (steps.Fetch i) none e = cc
          not_invoked (steps.Retry i seq) none e = cc
          not_invoked (steps.Sync i) none e = cc
          not_invoked (steps.Collect i) none e = cc
          not_invoked (steps.Recover part backup witness) none e = cc
          not_invoked (steps.Replace keeper part place) none e = cc
          not_invoked (steps.Migrate lo hi target) none e = cc
          not_invoked steps.Nudge none e = cc
          not_invoked (steps.Expire i) none e = cc
          not_invoked (steps.Stop node) none e = cc

  by_result : (s : Step) → IsServedStep s → InvokesNone s → (d : Deed) → deed_of w s ≡ d → IsMeant w d
      → (r : StepResult) → HistoryGoes w cl (steps_by w d r)
  by_result s its none Nothing is meant result.Done = idle [] (quiet w) refl client refl refl
  by_result s its none (Stops node) is meant result.Done = idle [] (effect w (Stops node)) refl client refl refl
  by_result s its none (Gives to given) is meant result.Done =
      let served = served_input w s its to given is in
      let later = later_input s none to given is in
      gives to.kind to.number given (events_of w (Gives to given)) (no_events to (numbered w.clients to.number) given served later) served later meant
  by_result s its none d is meant result.NoMessage = Rests client refl refl
  by_result s its none d is meant result.NoNode = Rests client refl refl
  by_result s its none d is meant result.Manager = Rests client refl refl
  by_result s its none d is meant result.Gone = Rests client refl refl
  by_result s its none d is meant (result.Full weight) = Rests client refl refl
  by_result s its none d is meant (result.Refused number) = Rests client refl refl

  step_history : (s : Step) → IsServedStep s → InvokesNone s → HistoryGoes w cl (step w s)
  unfolding step
  step_history s its none = by_result s its none (deed_of w s) refl (deed_meant w s) (result_of w s)

-- ---- what is told goes on

-- of one that pends
module _ (p new : Pending) (id : RequestId) (same : new.request ≡ p.request) (own : p.request.id ≡ id) where
  replaced_one : (ps : List Pending) → ps ≡ p ∷ [] → (q : Pending) × (replaced new ps ≡ q ∷ []) × (q.request.id ≡ id)
  replaced_one ps is = (cond (same_id p.request.id new.request.id) new p, ap (replaced new) is, by (same_id p.request.id new.request.id))
    where
      by : (t : Bool) → (cond t new p).request.id ≡ id
      by true = ap (λ (r : _). r.id) same ∙ own
      by false = own

found_one : (id : RequestId) (p q : Pending) → with_id id (p ∷ []) ≡ Some q → q ≡ p
found_one id p q e = by (same_id p.request.id id) e
  where
    by : (t : Bool) → first_of (cond t (p ∷ []) []) ≡ Some q → q ≡ p
    by true e = cc
    by false e = absurd cc

without_one : (p : Pending) (id : RequestId) → id ≡ p.request.id → without_id id (p ∷ []) ≡ []
without_one p id e = by (same_id p.request.id id) (subst (λ (x : RequestId). same_id p.request.id x ≡ true) (sym e) (same_id-self p.request.id))
  where
    by : (t : Bool) → t ≡ true → cond (not t) (p ∷ []) [] ≡ []
    by true e = refl
    by false e = absurd cc

module _ {w : World} (known : Known w) (f n : ℕ) (follows : Follows f w n) (s : Step) (its : IsServedStep s)
    (none : InvokesNone s) (xs : List AnsweredRequest) (id : RequestId) (command : Command) where
  abbrev v : World
  v = (step w s).world

  abbrev Later : Option Answer → Type 0
  Later a = Tells (step w s).world xs id command (answer_by a (step w s).outcome.completed)

  answer_rests : (a : Option Answer) (o : Option Completed) → o ≡ None → answer_by a o ≡ a
  answer_rests a o e = ap (answer_by a) e

  -- where nothing pends nothing completes
  nothing_heard : (cl : ClientState) → cl.pending ≡ [] → (r : Moved ClientState) → Hears cl r
      → (r.state.last ≡ cl.last) × (r.state.pending ≡ []) × (r.completed ≡ None)
  nothing_heard cl empty r (Keeps last pending completes) = (last, pending ∙ empty, completes)
  nothing_heard cl empty r (Changes i p new found same last pending completes) = absurd (no_one (sym found ∙ ap (with_id i) empty))
    where
      no_one : Some p ≡ None → ⊥
      no_one e = cc
  nothing_heard cl empty r (Completes i p done found same last pending some) = absurd (no_one (sym found ∙ ap (with_id i) empty))
    where
      no_one : Some p ≡ None → ⊥
      no_one e = cc

  -- what else isn't pending stays as it is
  quiet_goes : (cl : ClientState) → w.clients ≡ cl ∷ [] → cl.pending ≡ [] → HistoryGoes w cl (step w s)
      → (k : ClientState) × ((step w s).world.clients ≡ k ∷ []) × (k.pending ≡ []) × (k.last ≡ cl.last) × ((step w s).world.history ≡ w.history) × ((step w s).outcome.completed ≡ None)
  quiet_goes cl client empty (Rests clients history completes) = (cl, clients, empty, refl, history, completes)
  quiet_goes cl client empty (Heard x clients history completes) =
      let q = nothing_heard cl empty (on_client 1 cl x.from x.body) (client_told 1 x.from x.body cl).hears in
      ((on_client 1 cl x.from x.body).state, clients, q.1, q.0, history ∙ ap (λ (o : Option Completed). w.history ++ completion o) q.2 ∙ append-nil w.history, completes ∙ q.2)

  waits_goes : (cl : ClientState) → w.clients ≡ cl ∷ [] → (p : Pending) → cl.pending ≡ p ∷ [] → p.request.id ≡ id
      → cl.last ≡ length xs + 1 → w.history ≡ in_turn xs ++ Invoke id command ∷ []
      → HistoryGoes w cl (step w s) → Later None
  waits_goes cl client p pends own last history (Rests clients same completes) =
      subst (Tells v xs id command) (sym (answer_rests None _ completes)) (Waits cl clients p pends own last (same ∙ history))
  waits_goes cl client p pends own last history (Heard x clients more completes) = by (on_client 1 cl x.from x.body) clients more completes (client_told 1 x.from x.body cl).hears
    where
      by : (r : Moved ClientState) → v.clients ≡ r.state ∷ [] → v.history ≡ w.history ++ completion r.completed
          → (step w s).outcome.completed ≡ r.completed → Hears cl r → Later None
      by r clients more completes (Keeps l pending completed) =
          subst (Tells v xs id command) (sym (answer_rests None _ (completes ∙ completed)))
          (Waits r.state clients p (pending ∙ pends) own (l ∙ last) (more ∙ ap (λ (o : Option Completed). w.history ++ completion o) completed ∙ append-nil w.history ∙ history))
      by r clients more completes (Changes i y new found same l pending completed) =
          let is_p : y ≡ p = found_one i p y (sym (ap (with_id i) pends) ∙ found) in
          let one = replaced_one p new id (same ∙ ap (λ (z : Pending). z.request) is_p) own cl.pending pends in
          subst (Tells v xs id command) (sym (answer_rests None _ (completes ∙ completed)))
          (Waits r.state clients one.0 (pending ∙ one.1) one.2 (l ∙ last) (more ∙ ap (λ (o : Option Completed). w.history ++ completion o) completed ∙ append-nil w.history ∙ history))
      by r clients more completes (Completes i y done found same l pending completed) =
          let is_p : y ≡ p = found_one i p y (sym (ap (with_id i) pends) ∙ found) in
          let its_id : done.id ≡ p.request.id = same ∙ ap (λ (z : Pending). z.request.id) is_p in
          subst (Tells v xs id command) (sym (ap (answer_by None) (completes ∙ completed)))
          (Has r.state clients (pending ∙ ap (without_id done.id) pends ∙ without_one p done.id its_id) (l ∙ last) done.answer
          (more ∙ ap (λ (o : Option Completed). w.history ++ completion o) completed ∙ ap (λ (h : List Event). h ++ Complete done.id done.answer ∷ []) history
          ∙ append_assoc (in_turn xs) (Invoke id command ∷ []) (Complete done.id done.answer ∷ [])
          ∙ ap (λ (j : RequestId). in_turn xs ++ Invoke id command ∷ Complete j done.answer ∷ []) (its_id ∙ own) ∙ in_turn_push xs id command done.answer))

  -- a step that invokes nothing
  pub tells_step : (a : Option Answer) → Tells w xs id command a
      → Tells (step w s).world xs id command (answer_by a (step w s).outcome.completed)
  tells_step _ (Unasked cl client empty last history) =
      let q = quiet_goes cl client empty (step_history known f n follows cl client s its none) in
      subst (Tells v xs id command) (sym (answer_rests None _ q.5)) (Unasked q.0 q.1 q.2 (q.3 ∙ last) (q.4 ∙ history))
  tells_step _ (Waits cl client p pends own last history) = waits_goes cl client p pends own last history (step_history known f n follows cl client s its none)
  tells_step _ (Has cl client empty last a history) =
      let q = quiet_goes cl client empty (step_history known f n follows cl client s its none) in
      subst (Tells v xs id command) (sym (answer_rests (Some a) _ q.5)) (Has q.0 q.1 q.2 (q.3 ∙ last) a (q.4 ∙ history))
