-- An input to a client is at most one move of the machine: a request is invoked, or completes.
use Rattle.std.proofs.Common.{◌≡◌, inl, inr, ℕ, List, [], ◌∷◌, ◌++◌, append-nil, refl, ap, sym, ◌∙◌, subst, Option, Some, None, true}
use Rattle.std.specs.Prelude.{Result, Ok, Err}
use Rattle.curp_base.specs.Words.{At, numbered, Each}
use Rattle.curp_cmd.specs.Node.{client_node}
use Rattle.curp_cmd.specs.declared.command.Answer.{Answer}
use Rattle.curp_cmd.specs.declared.command.Command.{Command}
use Rattle.curp_cmd.specs.declared.command.RequestId.{RequestId}
use Rattle.curp_cmd.specs.declared.node.NodeId.{NodeId}
use Rattle.curp_msg.specs.Moved.{Moved, says, unless_refused, within}
use Rattle.curp_msg.specs.declared.body.Body.{Body}
use Rattle.curp_msg.specs.declared.body.Body.TheVariants as body
use Rattle.curp_msg.specs.declared.config.PartConfig.{PartConfig}
use Rattle.curp_msg.specs.declared.machine.Capture.{Capture}
use Rattle.curp_msg.specs.declared.machine.Completed.{Completed}
use Rattle.curp_msg.specs.Input.{Input}
use Rattle.curp_msg.specs.Input as input
use Rattle.curp_msg.specs.declared.machine.Local.{Local}
use Rattle.curp_msg.specs.declared.machine.Local.TheVariants as local
use Rattle.curp_msg.specs.declared.message.Message.{Message}
use Rattle.curp_order.specs.declared.Event.{Event}
use Rattle.curp_order.specs.declared.Event.TheVariants.{Invoke, Complete}
use Rattle.curp_model.specs.Client.{ClientState, Resent, client_input, client_ordered, invocation_for, invoke, next_id, next_request, retry, retry_for, sends_again, sends_first}
use Rattle.curp_model.specs.Marks.{flagged}
use Rattle.curp_model.specs.World.{World, completion, invocation_of, kept, with_client, with_completion}
use Rattle.curp_facts.specs.ClientNumbers.{IsUncompleted, ClientNumbersOk}
use Rattle.curp_facts.specs.Facts.{Completable, EntryWas, WasSent, lists_of_part}
use Rattle.curp_facts.specs.Nodes.{MayCome, WasSeen}
use Rattle.curp_facts.specs.Said.{WorthSaid}
use Rattle.curp_law_kept.specs.Deeds.{IsFor}
use Rattle.curp_law_kept.specs.ClientEffect.{ByValue, ClientAsks, ClientEffect, ClientSays, CompletionOk, MayComplete, events_after, ByQuick}
use Rattle.curp_law_kept.proofs.Gives.{never_invoked, waiting, effect, by_accepts, by_synced, said}
use Rattle.curp_facts.specs.Known.{Known}
use Rattle.curp_law_linear.specs.Line as line
use Rattle.curp_law_linear.specs.Moves.{Completes, Flags, FlagFits, Invokes}
use Rattle.curp_law_linear.specs.OfWorld.{line_of, told_by}
use Rattle.curp_law_linear.proofs.Given.{LogsOk}
use Rattle.curp_law_linear.specs.Ordered.{Ordered, capture_of}
use Rattle.curp_law_linear.proofs.Clients.{read_fits, update_fits, seen_fits}
use Rattle.curp_law_linear.proofs.Parts.{line_logs}
use Rattle.curp_law_linear.specs.Refined.{RefinesQuiet}
use Rattle.curp_law_linear.proofs.Quiet.{line_is, no_move, tell_nothing}
use Rattle.curp_law_linear.proofs.Same.{SameLogs}
use Rattle.curp_facts.specs.Predecessors.{Predecessors}
use Rattle.curp_facts.specs.Migrated.{Migrated}
use Rattle.curp_law_linear.proofs.CutMarks.{cuts_after}
use Rattle.curp_facts.specs.Reach.{QuickSaid}
use Rattle.curp_model.proofs.Batches.{all_of-kept}

-- ---- an order completes nothing

module _ (n : ℕ) (c : ClientState) where
  invoke_idle : (command : Command) → (invoke n c command).completed ≡ None
  unfolding invoke
  invoke_idle command = go (invocation_for c command)
    where
      go : (r : Result PartConfig ℕ) → (unless_refused c (sends_first n c (next_request n c command)) r).completed ≡ None
      go (Ok part) = refl
      go (Err number) = refl

  retry_idle : (seq : ℕ) → (retry n c seq).completed ≡ None
  unfolding retry
  retry_idle seq = go (retry_for n c seq)
    where
      go : (r : Result Resent ℕ) → (unless_refused c (sends_again n c) r).completed ≡ None
      go (Ok again) = refl
      go (Err number) = refl

  order_idle : (order : Local) → (client_ordered n c order).completed ≡ None
  unfolding client_ordered
  order_idle (local.Invoke command) = invoke_idle command
  order_idle (local.Retry seq) = retry_idle seq
  order_idle _ = refl

-- ---- what a client tells of

client_tells : (Adopted : PartConfig → Type 0) (n : ℕ) (events : List Event) (m : Message) → ClientSays Adopted n events m → told_by m.body ≡ []
client_tells Adopted n events m k = go m.body k.says_so
  where
    go : (b : Body) → ClientAsks Adopted n events m.to b → told_by b ≡ []
    go (body.Taken t) asks = absurd asks
    go _ asks = refl

-- ---- a read that was seen

-- who completes a read by a Quick has seen it
seen_of : {w : World} → Known w → (n : ℕ) (d : Completed) → ByQuick (MayCome w n) (EntryWas w) d.id d.answer d.by → WasSeen w d.id d.answer
seen_of {w} known n d e =
    let ok : QuickSaid w e.came.place e.part.master (client_node n) e.quick = known.inv.messages e.came.place _ e.came.stands in
    let client : client_node n ≡ client_node d.id.client = ok.addressee ∙ ap (λ (id : RequestId). client_node id.client) e.its_id in
    record {
      lists = lists_of_part e.part;
      adopted = e.adopted;
      quick = e.quick;
      sent = subst (λ (to : NodeId). WasSent w (says e.part.master to (body.Quick e.quick))) client e.came;
      its_id = e.its_id;
      its_answer = e.its_answer;
      its_epoch = e.epoch;
      its_version = e.version;
      lives = subst (λ (to : NodeId). Each (λ x. WasSent w (says x to (body.Probed (record { id = d.id; epoch = e.part.epoch; live = true })))) e.part.witnesses) client e.lives;
    }

-- ---- moves

module _ {w : World} (known : Known w) (chain : Predecessors w) (migrated : Migrated w) (ordered : Ordered w) (n : ℕ) (c : ClientState) (was : numbered w.clients n ≡ Some c) where
  numbers : ClientNumbersOk n w.history c
  numbers = (known.inv.clients n c was).numbers

  logs : LogsOk (line_of w).parts
  logs = line_logs known ordered

  module _ {v : World} (out : List Message) (s : SameLogs w v out) where
    -- a request is invoked
    invokes : (command : Command) → v.marks ≡ w.marks → v.history ≡ w.history ++ Invoke (next_id n c) command ∷ [] → RefinesQuiet w v
    invokes command marks history = record {
      its = record {
        moves = Invokes (next_id n c) command ∷ [];
        fit = (record { new = λ i d at. never_invoked n w.history c numbers known.inv.history command i d at }, logs, tt);
        leads = sym (line_is out s w.marks (w.history ++ Invoke (next_id n c) command ∷ []) marks history);
      };
      quiet = (tt, tt);
    }

    module _ (d : Completed) (ok : CompletionOk (MayCome w n) (EntryWas w) c d) (marks : v.marks ≡ flagged d w.marks) (history : v.history ≡ w.history ++ Complete d.id d.answer ∷ []) where
      pending : IsUncompleted n w.history ok.p.request
      pending = waiting n w.history c numbers ok.place ok.p ok.pending

      invoked : At w.history pending.asked.invoked.0 (Invoke d.id ok.p.request.command)
      invoked = subst (λ (id : RequestId). At w.history pending.asked.invoked.0 (Invoke id ok.p.request.command)) ok.its_id pending.asked.invoked.1

      waits : line.IsCompleted w.history d.id → ⊥
      waits done = pending.waits (done.event, done.answer, subst (λ (id : RequestId). At w.history done.event (Complete id done.answer)) (sym ok.its_id) done.stands)

      -- the marks, by what the completion bears
      its_marks : (by : Option Capture) → d.by ≡ by → v.marks ≡ flagged (record { id = d.id; answer = d.answer; by = by }) w.marks
      its_marks by e = marks ∙ ap (λ (o : Option Capture). flagged (record { id = d.id; answer = d.answer; by = o }) w.marks) e

      -- an update completes
      update_completes : (part : ℕ) × Completable w part d.id d.answer → d.by ≡ None → RefinesQuiet w v
      update_completes can none = record {
        its = record {
          moves = Completes d.id d.answer ∷ [];
          fit = (update_fits known chain migrated ordered d.id d.answer can.0 can.1 pending.asked.invoked.0 ok.p.request.command invoked waits, logs, tt);
          leads = sym (line_is out s (flagged (record { id = d.id; answer = d.answer; by = None }) w.marks) (w.history ++ Complete d.id d.answer ∷ []) (its_marks None none) history);
        };
        quiet = (tt, tt);
      }

      -- a read completes
      read_completes : ByValue (MayCome w n) d.id d.answer d.by → RefinesQuiet w v
      read_completes e = record {
        its = record {
          moves = Flags by d.id d.answer ∷ [];
          fit = (fits, logs, tt);
          leads = sym (line_is out s (flagged (record { id = d.id; answer = d.answer; by = Some by }) w.marks) (w.history ++ Complete d.id d.answer ∷ []) (its_marks (Some by) e.its_capture) history);
        };
        quiet = (tt, tt);
      }
        where
          by : Capture
          by = record { master = e.from; epoch = e.value.epoch; number = e.value.capture }

          sent : WasSent w (says e.from (client_node e.value.id.client) (body.Worth e.value))
          sent =
              let its : WorthSaid w e.from (client_node n) e.value = said known e.from (client_node n) (body.Worth e.value) e.came in
              subst (λ (to : NodeId). WasSent w (says e.from to (body.Worth e.value))) its.addressee e.came

          fits : FlagFits (line_of w) by d.id d.answer
          fits = subst (λ (a : Answer). FlagFits (line_of w) by d.id a) e.its_answer (subst (λ (id : RequestId). FlagFits (line_of w) by id e.value.answer) e.its_id
              (read_fits known chain migrated ordered e.from e.value sent (λ done. waits (subst (line.IsCompleted w.history) e.its_id done))))

      -- a read that was answered at once
      quick_completes : ByQuick (MayCome w n) (EntryWas w) d.id d.answer d.by → RefinesQuiet w v
      unfolding seen_of
      quick_completes e =
          let seen = seen_of known n d e in
          record {
            its = record {
              moves = Flags (capture_of e.part.master e.quick) d.id d.answer ∷ [];
              fit = (seen_fits known chain migrated ordered d.id d.answer seen waits, logs, tt);
              leads = sym (line_is out s (flagged (record { id = d.id; answer = d.answer; by = Some (capture_of e.part.master e.quick) }) w.marks) (w.history ++ Complete d.id d.answer ∷ []) (its_marks (Some (capture_of e.part.master e.quick)) e.its_capture) history);
            };
            quiet = (tt, tt);
          }

      completes : RefinesQuiet w v
      completes = elim ok.evidence [
        | inl u ↦ elim u.evidence [ inl e ↦ update_completes (by_synced known n d.id d.answer e) u.no_capture | inr e ↦ update_completes (by_accepts known n d.id d.answer e) u.no_capture ]
        | inr r ↦ elim r.evidence [ inl e ↦ read_completes e | inr e ↦ quick_completes e ]
      ]

  -- ---- any input

  -- the world after what the client has done
  abbrev left : List Event → Moved ClientState → World
  left events r = (kept w events (within (with_client w n) r)).world

  module _ (later : List Event) (r : Moved ClientState) (does : ClientEffect (MayCome w n) (EntryWas w) n later c r) where
    same : (events : List Event) → SameLogs w (left events r) r.messages
    same events = record {
      sent = all_of-kept w.sent r.messages;
      tells_nothing = tell_nothing (ClientSays (EntryWas w) n later) (client_tells (EntryWas w) n later) r.messages does.says;
      manager = refl;
      masters = refl;
      cuts_same = λ part. cuts_after part r.completed w.marks;
    }

    -- the history, by what completes
    history_by : (events : List Event) (o : Option Completed) → r.completed ≡ o → (left events r).history ≡ (w.history ++ events) ++ completion o
    history_by events o is = ap (λ (x : Option Completed). (w.history ++ events) ++ completion x) is

    marks_by : (events : List Event) (o : Option Completed) → r.completed ≡ o → (left events r).marks ≡ with_completion o w.marks
    marks_by events o is = ap (λ (x : Option Completed). with_completion x w.marks) is

    -- it invokes
    invokes_one : (command : Command) → r.completed ≡ None → RefinesQuiet w (left (Invoke (next_id n c) command ∷ []) r)
    invokes_one command idle = invokes r.messages (same events) command (marks_by events None idle) (history_by events None idle ∙ append-nil (w.history ++ events))
      where
        events : List Event
        events = Invoke (next_id n c) command ∷ []

    -- it may complete
    hears : (o : Option Completed) → r.completed ≡ o → MayComplete (MayCome w n) (EntryWas w) c o → RefinesQuiet w (left [] r)
    hears None is ok = no_move r.messages (same []) (marks_by [] None is) (history_by [] None is ∙ append-nil (w.history ++ []) ∙ append-nil w.history)
    hears (Some d) is ok = completes r.messages (same []) d ok (marks_by [] (Some d) is) (history_by [] (Some d) is ∙ ap (λ (es : List Event). es ++ Complete d.id d.answer ∷ []) (append-nil w.history))

  module _ (given : Input) (for : IsFor w (client_node n) given) (made : (client_input n c given).refused ≡ 0) where
    abbrev Done : Input → Type 0
    Done x = RefinesQuiet w (left (invocation_of (client_node n) (Some c) x) (client_input n c x))

    by_input : (x : Input) → ClientEffect (MayCome w n) (EntryWas w) n (events_after n w.history c x (client_input n c x)) c (client_input n c x) → Done x
    by_input (input.Local (local.Invoke command)) does =
        invokes_one (events_after n w.history c (input.Local (local.Invoke command)) (client_ordered n c (local.Invoke command))) (client_ordered n c (local.Invoke command)) does command (order_idle n c (local.Invoke command))
    by_input (input.Local order) does = hears _ (client_ordered n c order) does (client_ordered n c order).completed refl does.completes
    by_input (input.Message m) does = hears _ (client_input n c (input.Message m)) does (client_input n c (input.Message m)).completed refl does.completes

    -- what comes to a client is at most one move
    pub client_refines : {v : World} → v ≡ (kept w (invocation_of (client_node n) (Some c) given) (within (with_client w n) (client_input n c given))).world → RefinesQuiet w v
    client_refines is = subst (RefinesQuiet w) (sym is) (by_input given (effect known n given for c was made))
