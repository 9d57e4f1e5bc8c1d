-- What is sent at the first sending, and what the master and the witnesses answer to it.
use Rattle.std.proofs.Common.{◌≡◌, ℕ, suc, ◌+◌, ◌<◌, nat_lt, Bool, true, false, cond, List, [], ◌∷◌, ◌++◌, length, map, take, take_all, flat_map, Option, Some, None, Result, inr, refl, ap, sym, ◌∙◌, subst, arith}
use Rattle.std.specs.Option.{ok_or}
use Rattle.std.proofs.lemmas.Bool.{and_right, eq-eqb, or_from}
use Rattle.std.proofs.lemmas.Bool.Decides.{nat_tests}
use Rattle.curp_base.specs.Cases.{◌>>=◌, refuse_if}
use Rattle.curp_base.specs.Words.{At}
use Rattle.curp_base.proofs.Ends.{never_rises}
use Rattle.curp_base.proofs.Lists.{Each-at}
use Rattle.curp_cmd.specs.Node.{master_node, witness_node}
use Rattle.curp_cmd.specs.Store.{is_update}
use Rattle.curp_cmd.specs.declared.command.Answer.{Answer}
use Rattle.curp_cmd.specs.declared.command.RequestId.{RequestId}
use Rattle.curp_msg.specs.Moved.{Moved, Node, sends, says, unless_refused}
use Rattle.curp_msg.specs.declared.answer.Reason.{Reason}
use Rattle.curp_msg.specs.declared.body.Body.{Body}
use Rattle.curp_msg.specs.declared.body.Body.TheVariants as body
use Rattle.curp_msg.specs.declared.config.PartConfig.{PartConfig}
use Rattle.curp_msg.specs.declared.message.Message.{Message}
use Rattle.curp_model.specs.Client.{Accept, ClientState, Early, Glimpse, Pending, attempt_at, invoke, sends_first, sent_by, with_id, with_pending}
use Rattle.curp_model.specs.Log.{answer_after}
use Rattle.curp_model.specs.Master.{MasterState, last_round, marked_free, on_serving, on_update, pushed, reply, unless_it_ends}
use Rattle.curp_model.specs.declared.Wish.TheVariants.{AtOnce}
use Rattle.curp_model.specs.Master.{answers_at_once, captures_read, glance_command, glance_of, on_glance, read_refusal}
use Rattle.curp_model.specs.Witness.{WitnessState, is_live, on_witness, verdict_body}
use Rattle.curp_law_steps.specs.Holding.{IsOpen}
use Rattle.curp_law_steps.specs.Reading.{MasterIsClear, ReadMeetsNothing, capture_of, from_glanced, from_probed, live_of, quick_of, read_answers, read_sendings, value_at}
use Rattle.curp_law_steps.specs.Trip.{MeetsNothing, Reaches, Trip, WitnessIsFree, WitnessIsLive, accept_of, answers, answers_to, ask_of, client_of, from_a_witness, from_master, from_the_master, from_witness}
use Rattle.curp_law_steps.specs.Trip.{invoked, master_sends, reply_of, request, sendings, witness_sends}
use Rattle.curp_law_steps.proofs.Numbers.{Below, below_next, id_last, replaced_last}
use Rattle.curp_law_steps.proofs.Verdicts.{accepted_so}

module _ (t : Trip) where
  -- ---- at the client

  -- the client's request with what has come for it
  abbrev pub holding : List Early → List Accept → List Glimpse → List Accept → Pending
  holding early accepts glimpses lives = record { request = request t; attempts = attempt_at t.part ∷ []; asked = false; early = early; accepts = accepts; glimpses = glimpses; lives = lives }

  -- the client that waits
  abbrev pub client_with : Pending → ClientState
  client_with p = record t.client.state { last = t.client.state.last + 1; pending = t.client.state.pending ++ p ∷ [] }

  abbrev first_sending : Moved ClientState
  first_sending = sends_first t.client.number t.client.state (request t) t.part

  -- where the request goes, by the three rules that refuse it
  abbrev place_for : Bool → Bool → Option PartConfig → Result PartConfig ℕ
  place_for many ended owner = do
    _ ← refuse_if many 1
    _ ← refuse_if ended 2
    ok_or owner 3

  abbrev sends_to : Result PartConfig ℕ → Moved ClientState
  sends_to r = unless_refused t.client.state (sends_first t.client.number t.client.state (request t)) r

  invoked_by : (many ended : Bool) (o : Option PartConfig) → o ≡ Some t.part → (sends_to (place_for many ended o)).refused ≡ 0 → sends_to (place_for many ended o) ≡ first_sending
  invoked_by true ended o e z = absurd (omega (arith, z))
  invoked_by false true o e z = absurd (omega (arith, z))
  invoked_by false false None e z = absurd cc
  invoked_by false false (Some q) e z =
      let same : q ≡ t.part = cc in
      ap (λ (p : PartConfig). sends_first t.client.number t.client.state (request t) p) same

  invoked_is : Reaches t → invoked t ≡ first_sending
  unfolding invoke
  invoked_is ok = invoked_by _ _ _ ok.owner ok.not_refused

  pub state_is : Reaches t → (invoked t).state ≡ client_with (holding [] [] [] [])
  state_is ok = ap (λ (m : Moved ClientState). m.state) (invoked_is ok)

  pub sent_is : MeetsNothing t → (invoked t).messages ≡ sendings t
  sent_is ok = ap (λ (m : Moved ClientState). m.messages) (invoked_is ok.reaches) ∙ (λ i. sent_by t.client.number (ok.fast i) t.client.state.protocol (ok.update i) (request t) t.part)

  pub read_sent_is : (key : List ℕ) → ReadMeetsNothing t key → (invoked t).messages ≡ read_sendings t
  read_sent_is key ok = ap (λ (m : Moved ClientState). m.messages) (invoked_is ok.reaches) ∙ (λ i. sent_by t.client.number t.client.state.fast (ok.protocol i) (is_update (ok.get i)) (request t) t.part)

  -- the client has what it waits for in its place
  pub here : Reaches t → (p : Pending) → p.request.id ≡ (request t).id → with_id (request t).id (client_with p).pending ≡ Some p
  here ok p same =
      subst (λ (id : RequestId). with_id id (client_with p).pending ≡ Some p) same
      (id_last t.client.state.pending p (subst (λ (id : RequestId). Below id.seq t.client.state.pending) (sym same) (below_next t.client.state.last t.client.state.pending ok.numbers)))

  -- and it may change there
  pub changed : Reaches t → (old new : Pending) → old.request.id ≡ (request t).id → new.request.id ≡ (request t).id → with_pending (client_with old) new ≡ client_with new
  changed ok old new was is =
      ap (λ (ps : List Pending). record (client_with old) { pending = ps })
      (replaced_last new t.client.state.pending old (subst (λ (id : RequestId). Below id.seq t.client.state.pending) (sym is) (below_next t.client.state.last t.client.state.pending ok.numbers)) (was ∙ sym is))

  -- ---- at the master

  abbrev master : MasterState
  master = t.master.state

  abbrev behind : MasterState
  behind = marked_free (pushed master (request t) (request t).first) (length master.log) true

  abbrev told : Moved MasterState
  told = sends behind (reply t.master.number behind false (request t).id (answer_after master.lo master.hi (take (length master.log) master.log) t.command) ∷ [])

  abbrev reply_with : ℕ → ℕ → Answer → Message
  reply_with epoch version a =
      says (master_node t.master.number) (client_of t) (body.Reply (record { id = (request t).id; synced = false; epoch = epoch; version = version; answer = a }))

  -- no number rises, so no end is near
  counted : unless_it_ends master told ≡ told
  counted = rw (or_from _ _ (never_rises last_round master.round master.round refl)
      (never_rises last_round master.captured master.captured refl)) refl

  updated : MeetsNothing t → on_update t.master.number master AtOnce (ask_of t) ≡ told
  unfolding on_update
  updated ok =
      rw (eq-eqb t.part.epoch master.epoch (sym ok.master.serving.epoch)) (rw ok.master.serving.serves
      (rw ok.master.is_new
      (rw (eq-eqb t.part.version master.version (sym ok.master.serving.version)) (rw ok.master.serving.owns (rw ok.master.serving.untouched refl)))))

  pub replied_is : MeetsNothing t → from_master t ≡ reply_of t ∷ []
  unfolding on_serving
  replied_is ok =
      ap (λ (m : Moved MasterState). (unless_it_ends master m).messages) (updated ok)
      ∙ ap (λ (m : Moved MasterState). m.messages) counted
      ∙ λ i. reply_with (ok.master.serving.epoch i) (ok.master.serving.version i) (answer_after master.lo master.hi (whole i) t.command) ∷ []
    where
      whole : take (length master.log) master.log ≡ master.log
      whole = take_all (length master.log) master.log (omega arith)

  -- ---- at the master, where it is asked to read

  abbrev quick_with : ℕ → ℕ → (key : List ℕ) → Message
  quick_with epoch version key =
      from_the_master t (body.Quick (record { id = (request t).id; epoch = epoch; version = version; capture = capture_of t; answer = value_at t key }))

  abbrev at_once : (key : List ℕ) → Moved MasterState
  at_once key = answers_at_once t.master.number master (request t) key

  -- the capture number rises, and isn't at its end
  not_its_end : (key : List ℕ) → master.captured < last_round → unless_it_ends master (at_once key) ≡ at_once key
  not_its_end key low =
      let test : nat_lt last_round (master.captured + 1) ≡ false = grind (arith, nat_tests) in
      rw (or_from _ _ (never_rises last_round master.round master.round refl) (and_right (nat_lt master.captured (master.captured + 1)) _ test)) refl

  not_refused : MasterIsClear t.part (request t) master → read_refusal master (ask_of t) ≡ None
  not_refused ok =
      rw (eq-eqb t.part.epoch master.epoch (sym ok.serving.epoch)) (rw ok.serving.serves
      (rw ok.asks
      (rw (eq-eqb t.part.version master.version (sym ok.serving.version)) (rw ok.serving.owns refl))))

  glanced : (key : List ℕ) → ReadMeetsNothing t key → on_glance t.master.number master (ask_of t) ≡ at_once key
  unfolding on_glance
  glanced key ok =
      ap (glance_command t.master.number master (ask_of t)) ok.get
      ∙ ap (glance_of t.master.number master (request t) key) (not_refused ok.master)
      ∙ ap (λ (b : Bool). cond b (at_once key) (captures_read t.master.number master (request t) key)) ok.master.serving.untouched

  pub glanced_is : (key : List ℕ) → ReadMeetsNothing t key → from_glanced t ≡ quick_of t key ∷ []
  unfolding on_serving
  glanced_is key ok =
      ap (λ (m : Moved MasterState). (unless_it_ends master m).messages) (glanced key ok)
      ∙ ap (λ (m : Moved MasterState). m.messages) (not_its_end key ok.master.numbers)
      ∙ λ i. quick_with (ok.master.serving.epoch i) (ok.master.serving.version i) key ∷ []

  -- ---- at the witnesses

  free_accepts : (w : Node WitnessState) → WitnessIsFree t.part (request t) w.state → from_witness t w ≡ accept_of t w ∷ []
  unfolding on_witness
  free_accepts w f =
      let looks : IsOpen w.state t.part.epoch = record { mode = f.live.mode; of_epoch = λ own is. cc (is, f.live.epoch) } in
      ap (λ (o : Option Reason). says (witness_node w.number) (client_of t) (verdict_body (request t).id t.part.epoch o) ∷ [])
      (accepted_so w.state (request t) t.part.epoch (looks, inr (f.no_conflict, f.room)))

  pub accepted_is : MeetsNothing t → (k : ℕ) (w : Node WitnessState) → At t.witnesses k w → from_witness t w ≡ accept_of t w ∷ []
  accepted_is ok k w h = free_accepts w (Each-at (λ (x : Node WitnessState). WitnessIsFree t.part (request t) x.state) t.witnesses ok.witnesses k w h)

  says_live : (w : Node WitnessState) → WitnessIsLive t.part w.state → from_probed t w ≡ live_of t w ∷ []
  unfolding on_witness
  says_live w f =
      ap (λ (b : Bool). from_a_witness t (body.Probed (record { id = (request t).id; epoch = t.part.epoch; live = b })) w ∷ [])
      ((λ i. is_live (f.mode i) (f.epoch i) t.part.epoch) ∙ eq-eqb t.part.epoch t.part.epoch refl)

  pub live_is : (key : List ℕ) → ReadMeetsNothing t key → (k : ℕ) (w : Node WitnessState) → At t.witnesses k w → from_probed t w ≡ live_of t w ∷ []
  live_is key ok k w h = says_live w (Each-at (λ (x : Node WitnessState). WitnessIsLive t.part x.state) t.witnesses ok.witnesses k w h)

  -- ---- in all

  -- where each of them sends one message, these are all that is sent
  each_sends_one : (to_master to_witness said told_by_each : Body) → master_sends t to_master ≡ from_the_master t said ∷ []
      → ((k : ℕ) (w : Node WitnessState) → At t.witnesses k w → witness_sends t to_witness w ≡ from_a_witness t told_by_each w ∷ [])
      → answers_to t to_master to_witness ≡ from_the_master t said ∷ map (from_a_witness t told_by_each) t.witnesses
  each_sends_one to_master to_witness said told_by_each one each = λ i. one i ++ all t.witnesses each i
    where
      all : (ws : List (Node WitnessState)) → ((k : ℕ) (w : Node WitnessState) → At ws k w → witness_sends t to_witness w ≡ from_a_witness t told_by_each w ∷ [])
          → flat_map (witness_sends t to_witness) ws ≡ map (from_a_witness t told_by_each) ws
      all [] f = refl
      all (w ∷ ws) f = λ i. f 0 w refl i ++ all ws (λ k x h. f (suc k) x h) i

  -- the reply and the accepts are all that is sent
  pub answers_are : MeetsNothing t → answers t ≡ reply_of t ∷ map (accept_of t) t.witnesses
  answers_are ok = each_sends_one _ _ _ _ (replied_is ok) (accepted_is ok)

  -- the answer at once and the Lives are all that is sent
  pub read_answers_are : (key : List ℕ) → ReadMeetsNothing t key → read_answers t ≡ quick_of t key ∷ map (live_of t) t.witnesses
  read_answers_are key ok = each_sends_one _ _ _ _ (glanced_is key ok) (live_is key ok)
