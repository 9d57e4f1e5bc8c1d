-- The steps that begin something in a calm world: an update or a read is invoked, a round begins, ids are collected, the
-- configuration is asked for.
use Rattle.std.proofs.Common.{◌≡◌, ◌≤◌, ◌<◌, ◌⊎◌, inl, inr, ℕ, ◌+◌, ◌-◌, ◌^◌, Bool, true, false, cond, List, [], ◌∷◌, ◌++◌, length, set, nat_le, Option, Some, None, refl, ap, sym, ◌∙◌, subst, arith}
use Rattle.std.specs.Prelude.{Result, Ok}
use Rattle.std.specs.Bool.{⊤}
use Rattle.std.specs.List.{filter}
use Rattle.std.specs.Option.{ok_or}
use Rattle.std.proofs.lemmas.Bool.{leb-true}
use Rattle.curp_base.specs.Cases.{◌>>=◌, refuse_if}
use Rattle.curp_base.specs.Words.{At, Each, first_of, numbered}
use Rattle.curp_base.proofs.Lists.{Each-map, at_append, at_append_cases, at_append_right, prefix_self}
use Rattle.curp_base.proofs.Numbered.{numbered_set_same}
use Rattle.curp_cmd.specs.Hash.{hashes}
use Rattle.curp_cmd.specs.Node.{client_node, manager_node, master_node}
use Rattle.curp_cmd.specs.Store.{is_update}
use Rattle.curp_cmd.specs.declared.command.Command.{Command}
use Rattle.curp_cmd.specs.declared.command.Request.{Request}
use Rattle.curp_cmd.specs.declared.node.NodeId.{NodeId}
use Rattle.curp_msg.specs.Moved.{Moved, says, sends, unless_refused, within}
use Rattle.curp_msg.specs.declared.body.Body.{Body}
use Rattle.curp_msg.specs.declared.body.Body.TheVariants as body
use Rattle.curp_msg.specs.declared.config.PartConfig.{PartConfig}
use Rattle.curp_msg.specs.Input.{Input}
use Rattle.curp_msg.specs.Input as input
use Rattle.curp_msg.specs.declared.machine.Local.{Local}
use Rattle.curp_msg.specs.declared.machine.Local.TheVariants as local
use Rattle.curp_msg.specs.declared.message.Message.{Message}
use Rattle.curp_msg.specs.declared.outcome.StepResult.{StepResult}
use Rattle.curp_msg.specs.declared.outcome.StepResult.TheVariants.{Done}
use Rattle.curp_msg.specs.declared.script.Protocol.{Protocol}
use Rattle.curp_msg.specs.declared.script.Protocol.TheVariants.{One}
use Rattle.curp_msg.specs.declared.script.Step.{Step}
use Rattle.curp_facts.specs.Facts.{IsAmong}
use Rattle.curp_model.specs.Backup.{BackupState}
use Rattle.curp_model.specs.Client.{ClientState, Pending, attempt_at, client_input, client_ordered, invocation_for, invoke, most_pending, next_request, owner_of, sends_first, sent_by}
use Rattle.curp_model.specs.Manager.{ManagerState}
use Rattle.curp_model.specs.Master.{MasterState, Open, Phase, Switching, begins_round, collect_in, collects, serving_ordered, sync_in, unless_it_ends}
use Rattle.curp_model.specs.Ranges.{owns_all}
use Rattle.curp_model.specs.Recovery.{MasterStage, Serving, master_input, master_ordered}
use Rattle.curp_model.specs.World.{World, Deed, Gives, deed_of, messages, moves, moves_one, result_of, step, steps_by, with_client, with_master}
use Rattle.curp_law_steps.proofs.Gives.{its_result}
use Rattle.curp_law_kept.proofs.Gives.{each_among}
use Rattle.curp_law_served.specs.Calm.{Calm, IsUndelivered, IsAwaited, FitsIn, NoGap}
use Rattle.curp_law_served.specs.Ways.{EarlyReply, PendingGoes, PendsOne, Reads, GetsRecorded, Syncs, Updates}
use Rattle.curp_law_served.proofs.Fits.{BeginsAt, Said, round_of}
use Rattle.curp_law_served.proofs.Pending.{all_on, pends_on, recorded_on}
use Rattle.curp_law_served.proofs.RoundsWait.{AllSent, Keeps, begins, grows}
use Rattle.curp_law_served.proofs.Serving.{unended}
use Rattle.curp_law_served.proofs.Lists.{among_cases, among_first, among_later, among_map, among_none, each_of}
use Rattle.curp_law_served.proofs.Steps.{sent_more}
use Rattle.curp_law_served.proofs.Ways as ways
use Rattle.curp_law_served.proofs.Ways.{carry}
use Rattle.curp_law_served.specs.Grounds.{Grounds, IsCalm}

-- what was on its way still is, and what was sent is
module _ (w v : World) (done : ℕ) (more : List Message) (said : messages v ≡ messages w ++ more)
    (low : done ≤ length (messages w)) where
  pub still_due : (y : Message) → IsUndelivered w done y → IsUndelivered v done y
  still_due y due = (due.0, due.1, subst (λ (l : List Message). At l due.0 y) (sym said) (at_append (messages w) more due.0 y due.2))

  pub sent_due : (y : Message) → IsAmong y more → IsUndelivered v done y
  sent_due y a = (length (messages w) + a.place, omega (arith, low), subst (λ (l : List Message). At l (length (messages w) + a.place) y) (sym said) (at_append_right (messages w) more a.place (length (messages w) + a.place) y refl a.stands))

  pub due_was : (y : Message) → IsUndelivered v done y → IsUndelivered w done y ⊎ IsAmong y more
  due_was y due = elim (at_append_cases (messages w) more due.0 y (subst (λ (l : List Message). At l due.0 y) said due.2)) [
    | inl old ↦ inl (due.0, due.1, old)
    | inr new ↦ inr (record { place = new.0; stands = new.2 })
  ]

-- ---- a command is invoked where nothing pends

abbrev place_for : Bool → Bool → Option PartConfig → Result PartConfig ℕ
place_for many ended o = do
  _ ← refuse_if many 1
  _ ← refuse_if ended 2
  ok_or o 3

module _ (c : PartConfig) (cl : ClientState) (command : Command) (empty : cl.pending ≡ [])
    (config : cl.config.parts ≡ c ∷ []) (numbers : cl.last < 2 ^ 32 - 1)
    (owns : owns_all c.ranges (hashes command) ≡ true) where
  owner : owner_of cl.config command ≡ Some c
  owner = subst (λ (ps : List PartConfig). first_of (filter (λ (p : PartConfig). owns_all p.ranges (hashes command)) ps) ≡ Some c) (sym config) (by (owns_all c.ranges (hashes command)) owns)
    where
      by : (t : Bool) → t ≡ true → first_of (cond t (c ∷ []) []) ≡ Some c
      by true e = refl
      by false e = absurd cc

  -- it goes to the present master
  pub invocation : invocation_for cl command ≡ Ok c
  invocation = by (nat_le most_pending (length cl.pending)) (nat_le (2 ^ 32 - 1) cl.last) (owner_of cl.config command) (ap (λ (ps : List Pending). nat_le most_pending (length ps)) empty) (below (nat_le (2 ^ 32 - 1) cl.last) refl) owner
    where
      below : (t : Bool) → nat_le (2 ^ 32 - 1) cl.last ≡ t → t ≡ false
      below true e = absurd (omega (arith, numbers, leb-true (2 ^ 32 - 1) cl.last e))
      below false e = refl

      by : (many ended : Bool) (o : Option PartConfig) → many ≡ false → ended ≡ false → o ≡ Some c
          → place_for many ended o ≡ Ok c
      by false false (Some k) e f g = ap Ok (some_same k g)
        where
          some_same : (k : PartConfig) → Some k ≡ Some c → k ≡ c
          some_same k g = cc
      by true ended o e f g = absurd cc
      by false true o e f g = absurd cc
      by false false None e f g = absurd cc

  pub invoked : invoke 1 cl command ≡ sends_first 1 cl (next_request 1 cl command) c
  unfolding invoke
  invoked = ap (unless_refused cl (sends_first 1 cl (next_request 1 cl command))) invocation

-- ---- the world has moved by an order

-- by an input
pub record Gave (w v : World) (to : NodeId) (given : Input) : Type 0 where
  pub clients : v.clients ≡ (moves w to given).state.clients
  pub manager : v.manager ≡ (moves w to given).state.manager
  pub masters : v.masters ≡ (moves w to given).state.masters
  pub backups : v.backups ≡ (moves w to given).state.backups
  pub witnesses : v.witnesses ≡ (moves w to given).state.witnesses
  pub said : messages v ≡ messages w ++ (moves w to given).messages

pub gave : (w : World) (s : Step) (to : NodeId) (given : Input) → deed_of w s ≡ Gives to given
    → (step w s).outcome.result ≡ Done → Gave w (step w s).world to given
unfolding step
gave w s to given is made = go (deed_of w s) is (result_of w s) (sym (its_result w (deed_of w s) (result_of w s)) ∙ made)
  where
    is_made : Gave w (steps_by w (Gives to given) Done).world to given
    is_made = record { clients = refl; manager = refl; masters = refl; backups = refl; witnesses = refl; said = sent_more w.sent (moves w to given).messages }

    go : (deed : Deed) → deed ≡ Gives to given → (r : StepResult) → r ≡ Done → Gave w (steps_by w deed r).world to given
    go deed e r f = subst (λ (s : StepResult). Gave w (steps_by w deed s).world to given) (sym f) (subst (λ (d : Deed). Gave w (steps_by w d Done).world to given) (sym e) is_made)

-- ---- in a calm world where nothing pends

module _ (w v : World) (done : ℕ) (low : done ≤ length (messages w)) (c : PartConfig) (q : ℕ) (m : MasterState)
    (cl : ClientState) (calm : Calm w done c q m cl) where
  gap_stays : (to : NodeId) (b : Body) → v.backups ≡ w.backups → NoGap w to b → NoGap v to b
  gap_stays to (body.Append a) same g = (g.0, subst (λ (l : List BackupState). numbered l to.number ≡ Some g.0) (sym same) g.1, g.2)
  gap_stays to _ same g = tt

  module _ (command : Command) (empty : cl.pending ≡ []) (config : cl.config.parts ≡ c ∷ [])
      (numbers : cl.last < 2 ^ 32 - 1) (owns : owns_all c.ranges (hashes command) ≡ true)
      (did : Gave w v (client_node 1) (input.Local (local.Invoke command))) where
    abbrev r : Request
    r = next_request 1 cl command

    moved : moves w (client_node 1) (input.Local (local.Invoke command)) ≡ within (with_client w 1) (sends_first 1 cl r c)
    unfolding client_ordered
    moved = ap (λ (l : List ClientState). moves_one w (λ k. within (with_client w 1) (client_input 1 k (input.Local (local.Invoke command)))) (numbered l 1)) calm.client
        ∙ ap (λ (k : Moved ClientState). within (with_client w 1) k) (invoked c cl command empty config numbers owns)

    abbrev after : ClientState
    after = (sends_first 1 cl r c).state

    abbrev out : List Message
    out = sent_by 1 cl.fast cl.protocol (is_update command) r c

    said : messages v ≡ messages w ++ out
    said = did.said ∙ ap (λ (k : Moved World). messages w ++ k.messages) moved

    clients : v.clients ≡ after ∷ []
    clients = did.clients ∙ ap (λ (k : Moved World). k.state.clients) moved ∙ ap (λ (l : List ClientState). set l 0 after) calm.client

    -- what it sends, by what it asks
    out_is : (update : Bool) → is_update command ≡ update
        → sent_by 1 cl.fast cl.protocol (is_update command) r c ≡ sent_by 1 true One update r c
    out_is update e = ap (λ (f : Bool). sent_by 1 f cl.protocol (is_update command) r c) calm.fast ∙ ap (λ (p : Protocol). sent_by 1 true p (is_update command) r c) calm.protocol ∙ ap (λ (u : Bool). sent_by 1 true One u r c) e

    sent_it : (update : Bool) → is_update command ≡ update → (y : Message) → IsAmong y (sent_by 1 true One update r c)
        → IsUndelivered v done y
    sent_it update e y a = sent_due w v done out said low y (subst (λ (l : List Message). IsAmong y l) (sym (out_is update e)) a)

    abbrev fresh : Pending
    fresh = record { request = r; attempts = attempt_at c ∷ []; asked = false; early = []; accepts = []; glimpses = []; lives = [] }

    record_sent : is_update command ≡ true → (x : NodeId) → IsAmong x c.witnesses → GetsRecorded (IsUndelivered v done) c fresh x
    record_sent e x a = inr (inr (inl (
      says (client_node 1) x (body.Record (record { request = r; epoch = c.epoch })),
      sent_it true e _ (among_later _ _ _ (among_map (λ to. says (client_node 1) to (body.Record (record { request = r; epoch = c.epoch }))) x c.witnesses a)),
      (refl, refl, refl, refl),
    )))

    goes : PendingGoes (IsUndelivered v done) m c fresh
    goes = record {
      sent_once = refl;
      update = λ e. record {
        unproved = refl;
        told = inr (inl (_, sent_it true e _ (among_first _ _), (refl, refl, refl, refl)));
        asked = λ asked. absurd cc;
        recorded = each_among (GetsRecorded (IsUndelivered v done) c fresh) c.witnesses (record_sent e);
      };
      read = λ e. inl (_, sent_it false e _ (among_first _ _), (refl, refl, refl, refl));
    }

    fits_out : (update : Bool) → is_update command ≡ update → (y : Message)
        → IsAmong y (sent_by 1 true One update r c) → IsAwaited c y × NoGap v y.to y.body
    fits_out update e y a = each_of (λ (z : Message). IsAwaited c z × NoGap v z.to z.body) (sent_by 1 true One update r c) (all update) y a
      where
        all : (u : Bool) → Each (λ (z : Message). IsAwaited c z × NoGap v z.to z.body) (sent_by 1 true One u r c)
        all true = (
          (refl, tt),
          Each-map (λ (z : Message). IsAwaited c z × NoGap v z.to z.body) (λ to. says (client_node 1) to (body.Record (record { request = r; epoch = c.epoch }))) c.witnesses
              (each_among (λ to. (IsAmong to c.witnesses × (client_node 1 ≡ client_node 1)) × ⊤) c.witnesses (λ to among. ((among, refl), tt))),
        )
        all false = ((refl, tt), tt)

    new_fits : (y : Message) → IsAmong y out → IsAwaited c y × NoGap v y.to y.body
    new_fits y a = fits_out (is_update command) refl y (subst (λ (l : List Message). IsAmong y l) (out_is (is_update command) refl) a)

    -- an update or a read is invoked
    pub invoke_calm : IsCalm v done c q
    invoke_calm = (
      m,
      after,
      record {
        client = clients;
        fast = calm.fast;
        protocol = calm.protocol;
        manager = ap (λ (g : ManagerState). g.config.parts) (did.manager ∙ ap (λ (k : Moved World). k.state.manager) moved) ∙ calm.manager;
        its_master = calm.its_master;
        master = subst (λ (l : List MasterStage). numbered l q ≡ Some (Serving m)) (sym (did.masters ∙ ap (λ (k : Moved World). k.state.masters) moved)) calm.master;
        epoch = calm.epoch;
        version = calm.version;
        backups = calm.backups;
        witnesses = calm.witnesses;
        serves = calm.serves;
        fits = λ y due. elim (due_was w v done out said low y due) [ inl old ↦ calm.fits y old | inr new ↦ (new_fits y new).0 ];
        no_gaps = λ y due. elim (due_was w v done out said low y due) [
          | inl old ↦ gap_stays y.to y.body (did.backups ∙ ap (λ (k : Moved World). k.state.backups) moved) (calm.no_gaps y old)
          | inr new ↦ (new_fits y new).1
        ];
        goes = ways.master_goes (IsUndelivered w done) (IsUndelivered v done) (client_node 1) (client_node 1) body.Fetch (λ y due. inr (still_due w v done out said low y due)) tt q m calm.goes;
        pends = subst (λ (ps : List Pending). PendsOne (IsUndelivered v done) m c (ps ++ fresh ∷ [])) (sym empty) goes;
      },
    )

  -- ---- an order to the master

  -- what it does, nothing that it waits for forgotten
  module _ (order : Local) (r : Moved MasterState) (is : serving_ordered q m order ≡ r)
      (did : Gave w v (master_node q) (input.Local order)) where
    at_master : moves w (master_node q) (input.Local order) ≡ within (with_master w q (input.Local order) (Serving m)) (within Serving r)
    unfolding master_ordered
    at_master = ap (λ (o : Option MasterStage). moves_one w (λ k. within (with_master w q (input.Local order) k) (master_input q k (input.Local order))) o) calm.master
        ∙ ap (λ (k : Moved MasterState). within (with_master w q (input.Local order) (Serving m)) (within Serving k)) is

    order_said : messages v ≡ messages w ++ r.messages
    order_said = did.said ∙ ap (λ (k : Moved World). messages w ++ k.messages) at_master

    order_split : (y : Message) → IsUndelivered w done y → (y ≡ says (client_node 1) (client_node 1) body.Fetch) ⊎ IsUndelivered v done y
    order_split y due = inr (still_due w v done r.messages order_said low y due)

    order_sent : AllSent (IsUndelivered v done) r
    order_sent = sent_due w v done r.messages order_said low

    pub order_calm : Keeps (IsUndelivered w done) (IsUndelivered v done) q m r
        → ((y : Message) → IsAmong y r.messages → IsAwaited c y × NoGap w y.to y.body) → IsCalm v done c q
    order_calm keeps new = (
      r.state,
      cl,
      record {
        client = did.clients ∙ ap (λ (k : Moved World). k.state.clients) at_master ∙ calm.client;
        fast = calm.fast;
        protocol = calm.protocol;
        manager = ap (λ (g : ManagerState). g.config.parts) (did.manager ∙ ap (λ (k : Moved World). k.state.manager) at_master) ∙ calm.manager;
        its_master = calm.its_master;
        master = subst (λ (l : List MasterStage). numbered l q ≡ Some (Serving r.state)) (sym (did.masters ∙ ap (λ (k : Moved World). k.state.masters) at_master)) (numbered_set_same w.masters q (Serving m) (Serving r.state) calm.master);
        epoch = keeps.same.epoch ∙ calm.epoch;
        version = keeps.same.version ∙ calm.version;
        backups = keeps.same.backups ∙ calm.backups;
        witnesses = keeps.same.witnesses ∙ calm.witnesses;
        serves = keeps.same.phase ∙ calm.serves;
        fits = λ y due. elim (due_was w v done r.messages order_said low y due) [ inl old ↦ calm.fits y old | inr a ↦ (new y a).0 ];
        no_gaps = λ y due. gap_stays y.to y.body (did.backups ∙ ap (λ (k : Moved World). k.state.backups) at_master) (elim (due_was w v done r.messages order_said low y due) [ inl old ↦ calm.no_gaps y old | inr a ↦ (new y a).1 ]);
        goes = keeps.goes;
        pends = pends_on (IsUndelivered w done) (IsUndelivered v done) m r.state c (λ p. record {
          told = λ way. elim way [
            | inl k ↦ inl (carry (IsUndelivered w done) (IsUndelivered v done) (client_node 1) (client_node 1) body.Fetch order_split (Updates c p.request) (λ z. z) k)
            | inr tells ↦ elim tells [
              | inl a ↦ inr (inl (keeps.answers p.request.id a))
              | inr k ↦ inr (inr (carry (IsUndelivered w done) (IsUndelivered v done) (client_node 1) (client_node 1) body.Fetch order_split (EarlyReply c.master c.epoch c.version p.request.id) (λ z. z) k))
            ]
          ];
          asked = λ way. elim way [
            | inl k ↦ inl (carry (IsUndelivered w done) (IsUndelivered v done) (client_node 1) (client_node 1) body.Fetch order_split (Syncs c p.request) (λ z. z) k)
            | inr a ↦ inr (keeps.answers p.request.id a)
          ];
          recorded = recorded_on (IsUndelivered w done) (IsUndelivered v done) (client_node 1) (client_node 1) body.Fetch order_split c p (record { records = λ y z. z; accepts = λ y z. z; rejects = λ z. z });
          read = λ reads way. elim way [
            | inl k ↦ inl (carry (IsUndelivered w done) (IsUndelivered v done) (client_node 1) (client_node 1) body.Fetch order_split (Reads c p.request) (λ z. z) k)
            | inr g ↦ inr (keeps.gives p.request.id g)
          ];
        }) cl.pending calm.pends;
      },
    )

  -- a round begins
  sync_in_open : (p : Phase) → p ≡ Open → sync_in q m p ≡ begins_round q m
  sync_in_open Open e = refl
  sync_in_open (Switching s) e = absurd cc

  collect_in_open : (p : Phase) → p ≡ Open → collect_in q m p ≡ collects q m
  collect_in_open Open e = refl
  collect_in_open (Switching s) e = absurd cc

  module _ (grounds : Grounds w done c m cl) where
    syncs : serving_ordered q m local.Sync ≡ begins_round q m
    unfolding serving_ordered
    syncs = ap (unless_it_ends m) (sync_in_open m.phase calm.serves) ∙ unended q m grounds.bounded calm.serves grounds.roomy (begins_round q m) (omega arith) (omega arith)

    pub sync_calm : Gave w v (master_node q) (input.Local local.Sync) → IsCalm v done c q
    sync_calm did =
        let split = order_split local.Sync (begins_round q m) syncs did in
        let all = round_of c q m calm.its_master calm.epoch calm.backups calm.serves m refl refl refl refl in
        order_calm local.Sync (begins_round q m) syncs did
        (begins (IsUndelivered w done) (IsUndelivered v done) (client_node 1) (client_node 1) body.Fetch split q m calm.goes grounds.bounded m.log m.held m.captures m.captured m.free m.queue (order_sent local.Sync (begins_round q m) syncs did) (prefix_self m.log) tt tt
        (λ j a. a) (λ j a. inl a) (λ k a. a) (λ k a. inl a) (omega arith))
        (λ y a. let one = each_of (Said c q m calm.its_master calm.epoch calm.backups calm.serves) (begins_round q m).messages all y a in (one.0, gap_of y.from y.to y.body one.0 one.1))
      where
        gap_of : (from to : NodeId) (b : Body) → FitsIn c from to b → BeginsAt m to b → NoGap w to b
        gap_of from to (body.Append a) fit begin = let k = grounds.backups to fit.0 in (k.b, k.is, omega (arith, begin, k.known))
        gap_of from to _ fit begin = tt

    collects_open : serving_ordered q m local.Collect ≡ collects q m
    unfolding serving_ordered
    collects_open = collect_in_open m.phase calm.serves

    pub collect_calm : Gave w v (master_node q) (input.Local local.Collect) → IsCalm v done c q
    collect_calm did = order_calm local.Collect (collects q m) collects_open did
        (grows (IsUndelivered w done) (IsUndelivered v done) (client_node 1) (client_node 1) body.Fetch (order_split local.Collect (collects q m) collects_open did) q m calm.goes grounds.bounded tt tt m.log m.free _ (prefix_self m.log) _)
        (each_of (λ (z : Message). IsAwaited c z × NoGap w z.to z.body) (collects q m).messages
        (Each-map (λ (z : Message). IsAwaited c z × NoGap w z.to z.body) (λ to. says (master_node q) to _) m.witnesses
        (each_among (λ to. (IsAmong to c.witnesses × (master_node q ≡ c.master)) × ⊤) m.witnesses (λ to a. ((subst (λ (l : List NodeId). IsAmong to l) calm.witnesses a, sym calm.its_master), tt)))))

  -- ---- the client asks for the configuration

  module _ (did : Gave w v (client_node 1) (input.Local local.Fetch)) where
    fetch_moved : moves w (client_node 1) (input.Local local.Fetch) ≡ within (with_client w 1) (sends cl (says (client_node 1) manager_node body.Fetch ∷ []))
    unfolding client_ordered
    fetch_moved = ap (λ (l : List ClientState). moves_one w (λ k. within (with_client w 1) (client_input 1 k (input.Local local.Fetch))) (numbered l 1)) calm.client

    fetch_said : messages v ≡ messages w ++ says (client_node 1) manager_node body.Fetch ∷ []
    fetch_said = did.said ∙ ap (λ (k : Moved World). messages w ++ k.messages) fetch_moved

    fetch_split : (y : Message) → IsUndelivered w done y → (y ≡ says (client_node 1) (client_node 1) body.Fetch) ⊎ IsUndelivered v done y
    fetch_split y due = inr (still_due w v done _ fetch_said low y due)

    pub fetch_calm : IsCalm v done c q
    fetch_calm = (
      m,
      cl,
      record {
        client = did.clients ∙ ap (λ (k : Moved World). k.state.clients) fetch_moved ∙ ap (λ (l : List ClientState). set l 0 cl) calm.client;
        fast = calm.fast;
        protocol = calm.protocol;
        manager = ap (λ (g : ManagerState). g.config.parts) (did.manager ∙ ap (λ (k : Moved World). k.state.manager) fetch_moved) ∙ calm.manager;
        its_master = calm.its_master;
        master = subst (λ (l : List MasterStage). numbered l q ≡ Some (Serving m)) (sym (did.masters ∙ ap (λ (k : Moved World). k.state.masters) fetch_moved)) calm.master;
        epoch = calm.epoch;
        version = calm.version;
        backups = calm.backups;
        witnesses = calm.witnesses;
        serves = calm.serves;
        fits = λ y due. elim (due_was w v done _ fetch_said low y due) [
          | inl old ↦ calm.fits y old
          | inr a ↦ elim (among_cases y _ [] a) [ inl same ↦ subst (IsAwaited c) same (refl, refl) | inr none ↦ absurd (among_none y none) ]
        ];
        no_gaps = λ y due. elim (due_was w v done _ fetch_said low y due) [
          | inl old ↦ gap_stays y.to y.body (did.backups ∙ ap (λ (k : Moved World). k.state.backups) fetch_moved) (calm.no_gaps y old)
          | inr a ↦ elim (among_cases y _ [] a) [ inl same ↦ subst (λ (z : Message). NoGap v z.to z.body) same tt | inr none ↦ absurd (among_none y none) ]
        ];
        goes = ways.master_goes (IsUndelivered w done) (IsUndelivered v done) (client_node 1) (client_node 1) body.Fetch fetch_split tt q m calm.goes;
        pends = pends_on (IsUndelivered w done) (IsUndelivered v done) m m c (λ p. all_on (IsUndelivered w done) (IsUndelivered v done) (client_node 1) (client_node 1) body.Fetch fetch_split c p m
            (record { updates = λ z. z; syncs = λ z. z; reads = λ z. z }) (record { records = λ y z. z; accepts = λ y z. z; rejects = λ z. z }) (record { synced = λ z. z; early = λ z. z; value = λ z. z })) cl.pending calm.pends;
      },
    )
