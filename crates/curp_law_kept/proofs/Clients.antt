-- An input to a client keeps what nodes and messages keep.
use Rattle.std.proofs.Common.{◌≡◌, ◌≢◌, inl, inr, ℕ, true, false, List, ◌++◌, ap, sym, ◌∙◌, subst, arith, Option, Some, None, ◌⊎◌}
use Rattle.curp_base.specs.Words.{At, Each, numbered}
use Rattle.curp_base.proofs.Lists.{Each-at, Each-weaker, at_append_cases, at_one, at_same, at_within, prefix_back}
use Rattle.curp_cmd.specs.Node.{client_node}
use Rattle.curp_cmd.specs.Store.{is_update}
use Rattle.curp_cmd.specs.declared.command.Answer.{Answer}
use Rattle.curp_cmd.specs.declared.command.Command.{Command}
use Rattle.curp_cmd.specs.declared.command.Request.{Request}
use Rattle.curp_cmd.specs.declared.command.RequestId.{RequestId}
use Rattle.curp_cmd.specs.declared.node.NodeId.{NodeId}
use Rattle.curp_msg.specs.Moved.{says}
use Rattle.curp_msg.specs.declared.body.Body.{Body}
use Rattle.curp_msg.specs.declared.body.Body.TheVariants as body
use Rattle.curp_msg.specs.declared.machine.Completed.{Completed}
use Rattle.curp_msg.specs.Input.{Input}
use Rattle.curp_msg.specs.Input as input
use Rattle.curp_msg.specs.declared.machine.Local.TheVariants as local
use Rattle.curp_msg.specs.declared.message.Message.{Message}
use Rattle.curp_order.specs.Order.{IsHistory}
use Rattle.curp_order.specs.declared.Event.{Event}
use Rattle.curp_order.specs.declared.Event.TheVariants.{Invoke, Complete}
use Rattle.curp_model.specs.Client.{ClientState, client_input}
use Rattle.curp_model.specs.World.{World, completion, invocation_of}
use Rattle.curp_facts.specs.ClientNumbers.{CompletedBelow, IsAsked, ClientNumbersOk}
use Rattle.curp_facts.specs.Facts.{EntryWas, WasSent, lists_of_part}
use Rattle.curp_facts.specs.Nodes.{ClientOk, CompletedBy, MayCome, ValueWasSent, WasRead, WasSeen}
use Rattle.curp_facts.specs.Said.{AskSaid, RejectedSaid, Says, WorthSaid}
use Rattle.curp_law_kept.specs.Deeds.{IsFor}
use Rattle.curp_law_kept.specs.ClientEffect.{ByValue, ClientAsks, ClientEffect, ClientSays, CompletionOk, InputSuitsClient, MayComplete, SuitsClient, events_after, ByQuick}
use Rattle.curp_law_kept.proofs.ClientLater.{others_stay}
use Rattle.curp_law_kept.proofs.ClientEffects.{client_effect}
use Rattle.curp_law_kept.proofs.Numbers.{waiting}
use Rattle.curp_law_kept.proofs.Completes.{by_accepts, by_synced}
use Rattle.curp_facts.specs.Known.{Known}
use Rattle.curp_law_kept.proofs.Known.{knows_later, said}
use Rattle.curp_law_kept.proofs.Nodes.{completed_by_later, read_later}
use Rattle.curp_law_kept.proofs.Words.{Follows, event_at}
use Rattle.curp_facts.specs.Reach.{QuickSaid}

-- an id is invoked with one command
one_command_at : {events : List Event} → IsHistory events → (i j : ℕ) (id : RequestId) (x y : Command) → At events i (Invoke id x) → At events j (Invoke id y) → x ≡ y
one_command_at {events} h i j id x y a b = same (at_same events i (Invoke id x) (Invoke id y) a (subst (λ (k : ℕ). At events k (Invoke id y)) (sym (h.invoked_once i j id x y a b)) b))
  where
    same : Invoke id x ≡ Invoke id y → x ≡ y
    same e = cc

module _ {w : World} (known : Known w) (n : ℕ) (given : Input) (for : IsFor w (client_node n) given) (c : ClientState)
    (was : numbered w.clients n ≡ Some c) (made : (client_input n c given).refused ≡ 0) where
  abbrev Came : NodeId → Body → Type 0
  Came = MayCome w n

  before : ClientOk w n c
  before = known.inv.clients n c was

  -- ---- what comes to it suits

  suits : (given : Input) → IsFor w (client_node n) given → InputSuitsClient Came (EntryWas w) w.history given
  suits (input.Local order) meant = tt
  suits (input.Message m) meant = (came, body_suits m.body came)
    where
      came : Came m.from m.body
      came = subst (λ (to : NodeId). WasSent w (says m.from to m.body)) meant.0 meant.1

      body_suits : (b : Body) → Came m.from b → SuitsClient (EntryWas w) w.history b
      body_suits (body.Configuration config) sent = said known m.from (client_node n) (body.Configuration config) sent
      body_suits (body.Rejected r) sent =
          let ok : RejectedSaid w (client_node n) r = said known m.from (client_node n) (body.Rejected r) sent in
          λ q its asked. subst (λ (x : Command). is_update x ≡ true)
          (one_command_at known.inv.history ok.place asked.0 r.id ok.command q.command ok.invoked (subst (λ (id : RequestId). At w.history asked.0 (Invoke id q.command)) its asked.1)) ok.updates
      body_suits _ sent = tt

  -- what the input does to it
  pub effect : ClientEffect (MayCome w n) (EntryWas w) n (events_after n w.history c given (client_input n c given)) c (client_input n c given)
  effect = client_effect Came (EntryWas w) n w.history c known.inv.history before.numbers before.knows given (suits given for) made

  -- each of its messages is its own
  pub client_messages : Each (λ (m : Message). m.from ≡ client_node n) (client_input n c given).messages
  client_messages = Each-weaker (ClientSays (EntryWas w) n (events_after n w.history c given (client_input n c given))) (λ (m : Message). m.from ≡ client_node n) (λ m k. k.sender) (client_input n c given).messages effect.says

module _ {w v : World} (known : Known w) (n : ℕ) (given : Input) (for : IsFor w (client_node n) given) (c : ClientState)
    (was : numbered w.clients n ≡ Some c) (made : (client_input n c given).refused ≡ 0) (s : Follows w v) (later : v.history ≡ events_after n w.history c given (client_input n c given)) where
  its : ClientEffect (MayCome w n) (EntryWas w) n (events_after n w.history c given (client_input n c given)) c (client_input n c given)
  its = effect known n given for c was made

  -- ---- its state, and those of the others

  pub client_keeps : ClientOk v n (client_input n c given).state
  client_keeps = record {
    numbers = subst (λ (h : List Event). ClientNumbersOk n h (client_input n c given).state) (sym later) its.numbers;
    knows = knows_later w v s n (client_input n c given).state its.knows;
  }

  pub other_client_keeps : (m : ℕ) → m ≢ n → (d : ClientState) → numbered w.clients m ≡ Some d → ClientOk v m d
  other_client_keeps m other d here =
      let ok = known.inv.clients m d here in
      record {
        numbers = subst (λ (h : List Event). ClientNumbersOk m h d) (sym later) (others_stay (MayCome w n) (EntryWas w) n w.history c (known.inv.clients n c was).numbers given (client_input n c given) its.completes m other d ok.numbers);
        knows = knows_later w v s m d ok.knows;
      }

  -- ---- the history

  pub history_keeps : IsHistory v.history
  history_keeps = subst IsHistory (sym later) its.history

  value_completes : (done : Completed) → ByValue (MayCome w n) done.id done.answer done.by → ValueWasSent w done.id done.answer
  value_completes done e =
      let ok : WorthSaid w e.from (client_node n) e.value = said known e.from (client_node n) (body.Worth e.value) e.came in
      let client : client_node n ≡ client_node done.id.client = ok.addressee ∙ ap (λ (id : RequestId). client_node id.client) e.its_id in
      (e.from, e.value, subst (λ (to : NodeId). WasSent w (says e.from to (body.Worth e.value))) client e.came, e.its_id, e.its_answer)

  seen_completes : (done : Completed) → ByQuick (MayCome w n) (EntryWas w) done.id done.answer done.by → WasSeen w done.id done.answer
  seen_completes done e =
      let ok : QuickSaid w e.came.place e.part.master (client_node n) e.quick = known.inv.messages e.came.place _ e.came.stands in
      let client : client_node n ≡ client_node done.id.client = ok.addressee ∙ ap (λ (id : RequestId). client_node id.client) e.its_id in
      record {
        lists = lists_of_part e.part;
        adopted = e.adopted;
        quick = e.quick;
        sent = subst (λ (to : NodeId). WasSent w (says e.part.master to (body.Quick e.quick))) client e.came;
        its_id = e.its_id;
        its_answer = e.its_answer;
        its_epoch = e.epoch;
        its_version = e.version;
        lives = subst (λ (to : NodeId). Each (λ x. WasSent w (says x to (body.Probed (record { id = done.id; epoch = e.part.epoch; live = true })))) e.part.witnesses) client e.lives;
      }

  read_completes : (done : Completed) → ByValue (MayCome w n) done.id done.answer done.by ⊎ ByQuick (MayCome w n) (EntryWas w) done.id done.answer done.by → WasRead w done.id done.answer
  read_completes done e = elim e [
    | inl k ↦ inl (value_completes done k)
    | inr k ↦ inr (seen_completes done k)
  ]

  completes : (done : Completed) → CompletionOk (MayCome w n) (EntryWas w) c done → CompletedBy w done.id done.answer
  completes done ok = elim ok.evidence [
    | inl u ↦ elim u.evidence [ inl e ↦ inl (by_synced known n done.id done.answer e) | inr e ↦ inl (by_accepts known n done.id done.answer e) ]
    | inr r ↦ inr (read_completes done r.evidence)
  ]

  pub completed_keeps : (i : ℕ) (id : RequestId) (a : Answer) → At v.history i (Complete id a) → CompletedBy v id a
  completed_keeps i id a at = elim (at_append_cases (w.history ++ invoked) (completion done) i (Complete id a) (subst (λ (h : List Event). At h i (Complete id a)) later at)) [
    | inl old ↦ elim (at_append_cases w.history invoked i (Complete id a) old) [
      | inl h ↦ completed_by_later s id a (known.inv.completed i id a h)
      | inr h ↦ absurd (no_completion given h.0 h.2)
    ]
    | inr new ↦ completed_by_later s id a (now done its.completes new.0 new.2)
  ]
    where
      invoked : List Event
      invoked = invocation_of (client_node n) (Some c) given

      done : Option Completed
      done = (client_input n c given).completed

      no_completion : (g : Input) (j : ℕ) → At (invocation_of (client_node n) (Some c) g) j (Complete id a) → ⊥
      no_completion (input.Local (local.Invoke command)) j h = let o = at_one _ j (Complete id a) h in other o.1
        where
          other : {x : RequestId} {y : Command} → Invoke x y ≡ Complete id a → ⊥
          other e = cc
      no_completion (input.Local _) j h = absurd cc
      no_completion (input.Message m) j h = absurd cc

      now : (o : Option Completed) → MayComplete (MayCome w n) (EntryWas w) c o → (j : ℕ) → At (completion o) j (Complete id a) → CompletedBy w id a
      now None ok j h = absurd cc
      now (Some d) ok j h =
          let e = (at_one (Complete d.id d.answer) j (Complete id a) h).1 in
          subst (CompletedBy w id) (answers e) (subst (λ (x : RequestId). CompletedBy w x d.answer) (ids e) (completes d ok))
        where
          ids : {x : RequestId} {y : Answer} → Complete x y ≡ Complete id a → x ≡ id
          ids e = cc

          answers : {x : RequestId} {y : Answer} → Complete x y ≡ Complete id a → y ≡ a
          answers e = cc

  -- a completed read had its value sent
  pub reads_keep : (i j : ℕ) (id : RequestId) (command : Command) (a : Answer) → At v.history i (Invoke id command) → is_update command ≡ false → At v.history j (Complete id a) → WasRead v id a
  reads_keep i j id command a invoked reads at = elim (at_append_cases (w.history ++ called) (completion done) j (Complete id a) (subst (λ (h : List Event). At h j (Complete id a)) later at)) [
    | inl old ↦ elim (at_append_cases w.history called j (Complete id a) old) [
      | inl h ↦ read_later s id a (known.inv.reads i j id command a (before_it h) reads h)
      | inr h ↦ absurd (no_completion_in given h.0 h.2)
    ]
    | inr new ↦ read_later s id a (now done its.completes new.0 new.2)
  ]
    where
      called : List Event
      called = invocation_of (client_node n) (Some c) given

      done : Option Completed
      done = (client_input n c given).completed

      -- it was invoked before it completed
      before_it : At w.history j (Complete id a) → At w.history i (Invoke id command)
      before_it h =
          let o = history_keeps.after_invoked j id a at in
          let same : i ≡ o.0 = history_keeps.invoked_once i o.0 id command o.1 invoked o.3 in
          prefix_back s.grows.history i (Invoke id command) (omega (arith, same, o.2, at_within w.history j (Complete id a) h)) invoked

      no_completion_in : (g : Input) (k : ℕ) → At (invocation_of (client_node n) (Some c) g) k (Complete id a) → ⊥
      no_completion_in (input.Local (local.Invoke command)) k h = let o = at_one _ k (Complete id a) h in other o.1
        where
          other : {x : RequestId} {y : Command} → Invoke x y ≡ Complete id a → ⊥
          other e = cc
      no_completion_in (input.Local _) k h = absurd cc
      no_completion_in (input.Message m) k h = absurd cc

      one_event : {x : RequestId} {y : Answer} → Complete x y ≡ Complete id a → (x ≡ id) × (y ≡ a)
      one_event e = (cc, cc)

      not_update : (d : Completed) → CompletionOk (MayCome w n) (EntryWas w) c d → d.id ≡ id → WasRead w d.id d.answer
      not_update d ok same = elim ok.evidence [
        | inl u ↦
            let asked = (waiting n w.history c (known.inv.clients n c was).numbers ok.place ok.p ok.pending).asked in
            let there : At v.history asked.invoked.0 (Invoke id ok.p.request.command)
            = subst (λ (x : RequestId). At v.history asked.invoked.0 (Invoke x ok.p.request.command)) (ok.its_id ∙ same) (event_at s asked.invoked.0 _ asked.invoked.1) in
            absurd (both (one_command_at history_keeps i asked.invoked.0 id command ok.p.request.command invoked there) reads u.is)
        | inr r ↦ read_completes d r.evidence
      ]
        where
          both : {x y : Command} → x ≡ y → is_update x ≡ false → is_update y ≡ true → ⊥
          both e p q = cc

      now : (o : Option Completed) → MayComplete (MayCome w n) (EntryWas w) c o → (k : ℕ) → At (completion o) k (Complete id a) → WasRead w id a
      now None ok k h = absurd cc
      now (Some d) ok k h =
          let e = one_event (at_one (Complete d.id d.answer) k (Complete id a) h).1 in
          subst (WasRead w id) e.1 (subst (λ (x : RequestId). WasRead w x d.answer) e.0 (not_update d ok e.0))

  -- ---- what it says

  asked_now : (r : Request) → IsAsked n (events_after n w.history c given (client_input n c given)) r → AskSaid v (client_node n) r
  asked_now r ok = record {
    request = record {
      place = ok.invoked.0;
      invoked = subst (λ (h : List Event). At h ok.invoked.0 (Invoke r.id r.command)) (sym later) ok.invoked.1;
      first = ok.own_first;
      completed = subst (λ (h : List Event). CompletedBelow h r.id.client r.first) (sym later) (subst (λ (k : ℕ). CompletedBelow (events_after n w.history c given (client_input n c given)) k r.first) (sym ok.client) ok.below);
    };
    sender = ap client_node (sym ok.client);
  }

  pub client_says : (place : ℕ) (m : Message) → ClientSays (EntryWas w) n (events_after n w.history c given (client_input n c given)) m → Says v place m.from m.to m.body
  client_says place m ok = subst (λ (from : NodeId). Says v place from m.to m.body) (sym ok.sender) (go m.to m.body ok.says_so)
    where
      go : (to : NodeId) (b : Body) → ClientAsks (EntryWas w) n (events_after n w.history c given (client_input n c given)) to b → Says v place (client_node n) to b
      go to (body.Update ask) k = record { asked = asked_now ask.request k.0.asked; updates = k.1 }
      go to (body.Sync ask) k = record { asked = asked_now ask.request k.0.asked; updates = k.1 }
      go to (body.Read ask) k = record { asked = asked_now ask.request k.0.asked; reads = k.1 }
      go to (body.Glance ask) k = record { asked = asked_now ask.request k.0.asked; reads = k.1 }
      go to (body.Probe a) k =
          let asked = asked_now k.request k.asked in
          record {
            sender = asked.sender ∙ ap (λ (id : RequestId). client_node id.client) k.its_id;
            place = asked.request.place;
            command = k.request.command;
            invoked = subst (λ (id : RequestId). At v.history asked.request.place (Invoke id k.request.command)) k.its_id asked.request.invoked;
            reads = k.reads;
          }
      go to (body.Record r) k = record { asked = asked_now r.request k.0.asked; updates = k.1 }
      go to body.Fetch k = tt
      go to _ k = absurd k

  -- each of its messages says so
  pub client_said : (j : ℕ) (m : Message) → At (client_input n c given).messages j m → (place : ℕ) → Says v place m.from m.to m.body
  client_said j m at place = client_says place m (Each-at (ClientSays (EntryWas w) n (events_after n w.history c given (client_input n c given))) (client_input n c given).messages its.says j m at)
