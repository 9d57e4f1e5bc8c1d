-- The answers to an update, or to a read, come to the client in any order.
use Rattle.std.proofs.Common.{◌≡◌, ℕ, ◌==◌, ◌&&◌, ◌||◌, Bool, true, false, cond, not, List, [], ◌∷◌, refl, ap, sym, ◌∙◌, subst}
use Rattle.std.specs.List.{list_any}
use Rattle.std.specs.List.Sorted.{IsPermutation}
use Rattle.std.proofs.lemmas.Bool.{eq-eqb}
use Rattle.curp_cmd.proofs.Nodes.{same_node-self}
use Rattle.curp_cmd.specs.Node.{same_node, master_node, witness_node}
use Rattle.curp_cmd.specs.Store.{is_update}
use Rattle.curp_msg.specs.Moved.{Node, quiet}
use Rattle.curp_msg.specs.declared.body.Accepted.{Accepted}
use Rattle.curp_msg.specs.declared.body.Body.TheVariants as body
use Rattle.curp_msg.specs.declared.body.Probed.{Probed}
use Rattle.curp_msg.specs.declared.body.Quick.{Quick}
use Rattle.curp_msg.specs.declared.body.Reply.{Reply}
use Rattle.curp_msg.specs.declared.message.Message.{Message}
use Rattle.curp_model.specs.Client.{Accept, ClientState, Early, Glimpse, Pending, accepted, glimpsed, if_proved, if_seen, is_seen}
use Rattle.curp_model.specs.Client.{on_client, probed, proves, replied, with_evidence, with_sight}
use Rattle.curp_model.specs.Witness.{WitnessState}
use Rattle.curp_law_steps.specs.Reading.{ReadMeetsNothing, capture_of, read_answers, read_completion_of, value_at}
use Rattle.curp_law_steps.specs.Trip.{CompletesAtLast, CompletesNothing, MeetsNothing, Reaches, Trip, answer_of, answers, completion_of, invoked, request}
use Rattle.curp_law_steps.proofs.AnyOrder.{Hears, Judges, Wait, all_have, judged_by, and_of, words}
use Rattle.curp_law_steps.proofs.AnyOrder as any_order
use Rattle.curp_law_steps.proofs.Deliveries.{answers_are, changed, client_with, here, holding, read_answers_are, state_is}

module _ (t : Trip) where
  -- evidence of the master, at the epoch and version at which the request was sent, counts with all witnesses
  by_witnesses : Reaches t → (all : Bool)
      → (((same_node (master_node t.master.number) t.part.master && (t.part.epoch == t.part.epoch)) && (t.part.version == t.part.version) && all) || false) ≡ all
  by_witnesses ok all = (λ i. ((same i && eq-eqb t.part.epoch t.part.epoch refl i) && eq-eqb t.part.version t.part.version refl i && all) || false) ∙ alone all
    where
      same : same_node (master_node t.master.number) t.part.master ≡ true
      same = ap (same_node (master_node t.master.number)) ok.its_master ∙ same_node-self (master_node t.master.number)

      alone : (b : Bool) → (b || false) ≡ b
      alone true = refl
      alone false = refl

  -- ---- an update

  module _ (ok : MeetsNothing t) where
    abbrev waits_with : List Early → List Accept → Pending
    waits_with early accepts = holding t early accepts [] []

    abbrev for_reply : Wait Early
    for_reply = record {
      trip = t;
      masters_word = body.Reply (record { id = (request t).id; synced = false; epoch = t.part.epoch; version = t.part.version; answer = answer_of t });
      witness_word = body.Accepted (record { id = (request t).id; epoch = t.part.epoch });
      kept = record { master = master_node t.master.number; epoch = t.part.epoch; version = t.part.version; answer = answer_of t };
      waiting = λ early accepts. client_with t (waits_with early accepts);
      done = completion_of t;
    }

    by_evidence : (old : Pending) (early : List Early) (accepts : List Accept) → old.request.id ≡ (request t).id
        → Judges for_reply early accepts (with_evidence (client_with t old) (waits_with early accepts))
    by_evidence old early accepts was =
        let new = waits_with early accepts in
        judged_by for_reply (λ e. list_any (proves new e) new.attempts) (if_proved (client_with t old) new) early accepts
        (by_witnesses ok.reaches (all_have for_reply accepts)) (ap (λ (c : ClientState). quiet c) (changed t ok.reaches old new was refl)) (refl, refl)

    hears_reply : (accepts : List Accept) → Judges for_reply (for_reply.kept ∷ []) accepts (any_order.on for_reply [] accepts (any_order.first_word for_reply))
    unfolding on_client
    hears_reply accepts =
        let old = waits_with [] accepts in
        let c : ClientState = client_with t old in
        let r : Reply = record { id = (request t).id; synced = false; epoch = t.part.epoch; version = t.part.version; answer = answer_of t } in
        subst (Judges for_reply (for_reply.kept ∷ []) accepts)
        (sym (ap (replied c (master_node t.master.number) r) (here t ok.reaches old refl)
        ∙ ap (λ (b : Bool). cond (not b) (quiet c) (with_evidence c (waits_with (for_reply.kept ∷ []) accepts))) ok.update))
        (by_evidence old (for_reply.kept ∷ []) accepts refl)

    hears_accept : (early : List Early) (accepts : List Accept) (w : Node WitnessState)
        → Judges for_reply early (and_of for_reply accepts w) (any_order.on for_reply early accepts (any_order.word_of for_reply w))
    unfolding on_client
    hears_accept early accepts w =
        let old = waits_with early accepts in
        let c : ClientState = client_with t old in
        let a : Accepted = record { id = (request t).id; epoch = t.part.epoch } in
        let new = waits_with early (and_of for_reply accepts w) in
        subst (Judges for_reply early (and_of for_reply accepts w))
        (sym (ap (accepted c (witness_node w.number) a) (here t ok.reaches old refl)
        ∙ ap (λ (b : Bool). cond b (with_evidence c new) (quiet c)) ok.update))
        (by_evidence old early (and_of for_reply accepts w) refl)

    hears : Hears for_reply
    hears = record { reaches = ok.reaches; hears_master = hears_reply; hears_witness = hears_accept }

    pub completes : (order : List Message) → IsPermutation (answers t) order → CompletesAtLast t.client.number (invoked t).state order (completion_of t)
    completes order p = subst (λ (c : ClientState). CompletesAtLast t.client.number c order (completion_of t)) (sym (state_is t ok.reaches))
        (any_order.completes for_reply hears order (subst (λ (l : List Message). IsPermutation l order) (answers_are t ok) p))

    pub all_count : (missing : Message) (others : List Message) → IsPermutation (answers t) (missing ∷ others) → CompletesNothing t.client.number (invoked t).state others
    all_count missing others p = subst (λ (c : ClientState). CompletesNothing t.client.number c others) (sym (state_is t ok.reaches))
        (any_order.all_count for_reply hears missing others (subst (λ (l : List Message). IsPermutation l (missing ∷ others)) (answers_are t ok) p))

  -- ---- a read

  module _ (key : List ℕ) (ok : ReadMeetsNothing t key) where
    abbrev looks_with : List Glimpse → List Accept → Pending
    looks_with glimpses lives = holding t [] [] glimpses lives

    abbrev for_quick : Wait Glimpse
    for_quick = record {
      trip = t;
      masters_word = body.Quick (record { id = (request t).id; epoch = t.part.epoch; version = t.part.version; capture = capture_of t; answer = value_at t key });
      witness_word = body.Probed (record { id = (request t).id; epoch = t.part.epoch; live = true });
      kept = record { master = master_node t.master.number; epoch = t.part.epoch; version = t.part.version; capture = capture_of t; answer = value_at t key };
      waiting = λ glimpses lives. client_with t (looks_with glimpses lives);
      done = read_completion_of t key;
    }

    by_sight : (old : Pending) (glimpses : List Glimpse) (lives : List Accept) → old.request.id ≡ (request t).id
        → Judges for_quick glimpses lives (with_sight (client_with t old) (looks_with glimpses lives))
    by_sight old glimpses lives was =
        let new = looks_with glimpses lives in
        judged_by for_quick (λ g. list_any (is_seen new g) new.attempts) (if_seen (client_with t old) new) glimpses lives
        (by_witnesses ok.reaches (all_have for_quick lives)) (ap (λ (c : ClientState). quiet c) (changed t ok.reaches old new was refl)) (refl, refl)

    no_update : is_update t.command ≡ false
    no_update = ap is_update ok.get

    hears_quick : (lives : List Accept) → Judges for_quick (for_quick.kept ∷ []) lives (any_order.on for_quick [] lives (any_order.first_word for_quick))
    unfolding on_client
    hears_quick lives =
        let old = looks_with [] lives in
        let c : ClientState = client_with t old in
        let q : Quick = record { id = (request t).id; epoch = t.part.epoch; version = t.part.version; capture = capture_of t; answer = value_at t key } in
        subst (Judges for_quick (for_quick.kept ∷ []) lives)
        (sym (ap (glimpsed c (master_node t.master.number) q) (here t ok.reaches old refl)
        ∙ ap (λ (b : Bool). cond b (quiet c) (with_sight c (looks_with (for_quick.kept ∷ []) lives))) no_update))
        (by_sight old (for_quick.kept ∷ []) lives refl)

    hears_live : (glimpses : List Glimpse) (lives : List Accept) (w : Node WitnessState)
        → Judges for_quick glimpses (and_of for_quick lives w) (any_order.on for_quick glimpses lives (any_order.word_of for_quick w))
    unfolding on_client
    hears_live glimpses lives w =
        let old = looks_with glimpses lives in
        let c : ClientState = client_with t old in
        let a : Probed = record { id = (request t).id; epoch = t.part.epoch; live = true } in
        subst (Judges for_quick glimpses (and_of for_quick lives w))
        (sym (ap (probed t.client.number c (witness_node w.number) a) (here t ok.reaches old refl)
        ∙ ap (λ (b : Bool). cond b (quiet c) (with_sight c (looks_with glimpses (and_of for_quick lives w)))) no_update))
        (by_sight old glimpses (and_of for_quick lives w) refl)

    read_hears : Hears for_quick
    read_hears = record { reaches = ok.reaches; hears_master = hears_quick; hears_witness = hears_live }

    pub read_completes : (order : List Message) → IsPermutation (read_answers t) order → CompletesAtLast t.client.number (invoked t).state order (read_completion_of t key)
    read_completes order p = subst (λ (c : ClientState). CompletesAtLast t.client.number c order (read_completion_of t key)) (sym (state_is t ok.reaches))
        (any_order.completes for_quick read_hears order (subst (λ (l : List Message). IsPermutation l order) (read_answers_are t key ok) p))

    pub read_all_count : (missing : Message) (others : List Message) → IsPermutation (read_answers t) (missing ∷ others) → CompletesNothing t.client.number (invoked t).state others
    read_all_count missing others p = subst (λ (c : ClientState). CompletesNothing t.client.number c others) (sym (state_is t ok.reaches))
        (any_order.all_count for_quick read_hears missing others (subst (λ (l : List Message). IsPermutation l (missing ∷ others)) (read_answers_are t key ok) p))
