-- An update or a sync comes to the master: nothing that it waits for is forgotten, and the request is answered or waits.
use Rattle.std.proofs.Common.{◌≡◌, ◌≤◌, ◌<◌, ◌⊎◌, ◌==◌, inl, inr, ℕ, ◌+◌, Bool, true, false, not, cond, List, [], ◌∷◌, ◌++◌, length, nat_lt, slice_get, Option, Some, None, refl, sym, ◌∙◌, subst, arith, length-append}
use Rattle.std.specs.Prelude.{option_map, if◌then◌else◌}
use Rattle.std.specs.BTreeSet.{insert_key}
use Rattle.std.specs.Ordering.{nat_cmp}
use Rattle.std.proofs.lemmas.Bool.{cond_both, eq-eqb, eqb-true, ltb-false}
use Rattle.curp_base.specs.Cases.{first_case, only_if}
use Rattle.curp_base.specs.Words.{At}
use Rattle.curp_base.proofs.Lists.{at_push, at_within, prefix_push, prefix_self}
use Rattle.curp_base.proofs.Numbered.{any_at}
use Rattle.curp_cmd.specs.Hash.{hashes}
use Rattle.curp_cmd.specs.Node.{client_node, master_node}
use Rattle.curp_cmd.specs.declared.command.Answer.{Answer}
use Rattle.curp_cmd.specs.declared.command.Request.{Request}
use Rattle.curp_cmd.specs.declared.entry.Entry.{Entry}
use Rattle.curp_cmd.specs.declared.entry.Entry.TheVariants.{Op, Take, Give, Expire}
use Rattle.curp_cmd.specs.declared.node.NodeId.{NodeId}
use Rattle.curp_msg.specs.Moved.{sends, says}
use Rattle.curp_msg.specs.declared.answer.Refusal.TheVariants as refusal
use Rattle.curp_msg.specs.declared.body.Ask.{Ask}
use Rattle.curp_msg.specs.declared.body.Body.{Body}
use Rattle.curp_msg.specs.declared.body.Body.TheVariants as body
use Rattle.curp_msg.specs.declared.message.Message.{Message}
use Rattle.curp_msg.specs.declared.config.PartConfig.{PartConfig}
use Rattle.curp_facts.specs.Facts.{IsAmong}
use Rattle.curp_model.specs.declared.Check.{Check}
use Rattle.curp_model.specs.declared.Check.TheVariants.{Expired, Stale, Known, New}
use Rattle.curp_model.specs.Master.{MasterState, Open, Phase, Switching, begins_round, by_check, carries_out, executes, has, holds_back, is_clean, is_idle_op, is_open, known_again, known_at, on_update, queued, reply, state_of, synced, verdict}
use Rattle.curp_model.specs.declared.Verdict.TheVariants.{Deny, Execute, HoldBack, Tell, TellAgain}
use Rattle.curp_model.specs.declared.Verdict.{Verdict}
use Rattle.curp_model.specs.declared.Wish.TheVariants.{AtOnce, WhenSynced}
use Rattle.curp_model.specs.declared.Wish.{Wish}
use Rattle.curp_model.specs.Ranges.{owns_all}
use Rattle.curp_model.specs.Table.{check}
use Rattle.curp_law_served.specs.Ways.{Answers, MasterGoes, WillTell}
use Rattle.curp_law_served.proofs.Lists.{among_first, among_inserted, inserted, inserted_cases}
use Rattle.curp_law_served.proofs.RoundsWait as rounds
use Rattle.curp_law_served.proofs.RoundsWait.{AllSent, Keeps}
use Rattle.curp_law_served.proofs.Ways.{NoReply, NoRound}
use Rattle.curp_law_served.specs.Grounds.{Bounded, IsFine}

-- ---- what is held back isn't synced

abbrev pub HoldsUnsynced : MasterState → Verdict → Type 0
HoldsUnsynced m (HoldBack index) = (synced m ≤ index) × (index < length m.log)
HoldsUnsynced m _ = Unit {0}

module _ (m : MasterState) where
  again_unsynced : (wish : Wish) (a : Answer) (index : ℕ) → synced m ≤ index → index < length m.log
      → HoldsUnsynced m (known_again m wish a index)
  again_unsynced AtOnce a index high low = cond_both (has index m.free) _ _ (HoldsUnsynced m) (λ y. tt) (λ n. (high, low))
  again_unsynced WhenSynced a index high low = (high, low)

  idle_within : (index : ℕ) (o : Option Entry) → slice_get m.log index ≡ o → is_idle_op m index o ≡ true
      → index < length m.log
  idle_within index (Some e) at is = at_within m.log index e at
  idle_within index None at is = absurd cc

  known_unsynced : (wish : Wish) (a : Answer) (index : ℕ) → HoldsUnsynced m (known_at m wish a index)
  known_unsynced wish a index = cond_both (nat_lt index (synced m)) _ _ (HoldsUnsynced m) (λ y. tt)
      (λ high. cond_both (is_idle_op m index (slice_get m.log index)) _ _ (HoldsUnsynced m)
      (λ idle. again_unsynced wish a index (ltb-false index (synced m) high) (idle_within index (slice_get m.log index) refl idle))
      (λ n. tt))

  -- the first of the rules, by what each of them finds
  abbrev by_rules : Wish → Ask → Bool → Bool → Check → Bool → Bool → Verdict
  by_rules wish ask epoch opens found version owned = first_case (
      option_map Deny (only_if (not epoch) (refusal.Epoch m.epoch))
      ∷ option_map Deny (only_if (not opens) refusal.Switching)
      ∷ by_check m wish found
      ∷ option_map Deny (only_if (not version) (refusal.Version m.version))
      ∷ option_map Deny (only_if (not owned) refusal.NotOwner)
      ∷ []) Execute

  rules_unsynced : (wish : Wish) (ask : Ask) (epoch opens : Bool) (found : Check) (version owned : Bool)
      → HoldsUnsynced m (by_rules wish ask epoch opens found version owned)
  rules_unsynced wish ask false opens found version owned = tt
  rules_unsynced wish ask true false found version owned = tt
  rules_unsynced wish ask true true Expired version owned = tt
  rules_unsynced wish ask true true (Stale first) version owned = tt
  rules_unsynced wish ask true true (Known a index) version owned = known_unsynced wish a index
  rules_unsynced wish ask true true New false owned = tt
  rules_unsynced wish ask true true New true false = tt
  rules_unsynced wish ask true true New true true = tt

  pub verdict_unsynced : (wish : Wish) (ask : Ask) → HoldsUnsynced m (verdict m wish ask)
  verdict_unsynced wish ask = rules_unsynced wish ask (ask.epoch == m.epoch) (is_open m.phase) (check (state_of m).table ask.request.id) (ask.version == m.version) (owns_all (state_of m).owned (hashes ask.request.command))

-- ---- nothing is forgotten

module _ (D E : Message → Type 0) (from to : NodeId) (b : Body) (split : (x : Message) → D x → (x ≡ says from to b) ⊎ E x) (n : ℕ) (m : MasterState) (goes : MasterGoes D n m) (bounded : Bounded m)
    (dull : NoRound b) (silent : NoReply b) where
  says_only : (out : List Message) → Keeps D E n m (sends m out)
  says_only out = rounds.says_only D E from to b split n m goes bounded dull silent out

  held_stays : (index : ℕ) (j : ℕ) → IsAmong j m.held → IsAmong j (insert_key nat_cmp m.held index)
  held_stays index j among = among_inserted j index m.held among

  held_comes : (long index : ℕ) → synced m ≤ index → index < long → (j : ℕ)
      → IsAmong j (insert_key nat_cmp m.held index) → IsAmong j m.held ⊎ ((synced m ≤ j) × (j < long))
  held_comes long index high low j among = elim (inserted_cases j index m.held among) [
    | inl same ↦ inr (omega (arith, same, high), omega (arith, same, low))
    | inr old ↦ inl old
  ]

  holds : (index : ℕ) → synced m ≤ index → index < length m.log → AllSent E (holds_back n m index)
      → Keeps D E n m (holds_back n m index)
  holds index high low sent = rounds.begins D E from to b split n m goes bounded m.log (insert_key nat_cmp m.held index) m.captures m.captured m.free m.queue sent (prefix_self m.log) dull silent
      (held_stays index) (held_comes (length m.log) index high low) (λ c among. among) (λ c among. inl among) (omega arith)

  module _ (r : Request) where
    abbrev log : List Entry
    log = m.log ++ Op r r.first ∷ []

    longer : length log ≡ length m.log + 1
    longer = length-append m.log (Op r r.first ∷ [])

    pushes : (free : List ℕ)
        → AllSent E (begins_round n (rounds.changed D E from to b split n m goes bounded log (insert_key nat_cmp m.held (length m.log)) m.captures m.captured free (queued m.queue r.id (length m.log + 1))))
        → Keeps D E n m (begins_round n (rounds.changed D E from to b split n m goes bounded log (insert_key nat_cmp m.held (length m.log)) m.captures m.captured free (queued m.queue r.id (length m.log + 1))))
    pushes free sent = rounds.begins D E from to b split n m goes bounded log (insert_key nat_cmp m.held (length m.log)) m.captures m.captured free (queued m.queue r.id (length m.log + 1)) sent (prefix_push m.log (Op r r.first ∷ [])) dull silent
        (held_stays (length m.log)) (held_comes (length log) (length m.log) bounded.within (omega (arith, longer))) (λ c among. among) (λ c among. inl among) (omega arith)

    executed : (wish : Wish) (clean : Bool) → AllSent E (executes n m wish r clean)
        → Keeps D E n m (executes n m wish r clean)
    executed AtOnce true sent = rounds.grows D E from to b split n m goes bounded dull silent log (m.free ++ length m.log ∷ []) (queued m.queue r.id (length m.log + 1)) (prefix_push m.log (Op r r.first ∷ [])) _
    executed AtOnce false sent = pushes m.free sent
    executed WhenSynced true sent = pushes (m.free ++ length m.log ∷ []) sent
    executed WhenSynced false sent = pushes m.free sent

  pub updated : (wish : Wish) (r : Request) (v : Verdict) → HoldsUnsynced m v → AllSent E (carries_out n m wish r v)
      → Keeps D E n m (carries_out n m wish r v)
  updated wish r (Deny why) ok sent = says_only _
  updated wish r (Tell a) ok sent = says_only _
  updated wish r (TellAgain a) ok sent = says_only _
  updated wish r (HoldBack index) ok sent = holds index ok.0 ok.1 sent
  updated wish r Execute ok sent = executed r wish (is_clean m r.command) sent

  -- an update or a sync comes
  pub keeps : (wish : Wish) (ask : Ask) → AllSent E (on_update n m wish ask) → Keeps D E n m (on_update n m wish ask)
  unfolding on_update
  keeps wish ask sent = updated wish ask.request (verdict m wish ask) (verdict_unsynced m wish ask) sent

-- ---- the request is answered, or waits

module _ (E : Message → Type 0) (n : ℕ) (m : MasterState) (c : PartConfig) (its_master : c.master ≡ master_node n)
    (its_epoch : m.epoch ≡ c.epoch) (its_version : m.version ≡ c.version) (r : Request) where
  -- what is wanted
  abbrev pub Wanted : Wish → MasterState → Type 0
  Wanted AtOnce k = WillTell E c k r.id
  Wanted WhenSynced k = Answers E k r.id

  of_answers : (wish : Wish) (k : MasterState) → Answers E k r.id → Wanted wish k
  of_answers AtOnce k a = inl a
  of_answers WhenSynced k a = a

  -- it is told at once
  told : (k : MasterState) (a : Answer)
      → E (says (master_node n) (client_node r.id.client) (body.Reply (record { id = r.id; synced = false; epoch = m.epoch; version = m.version; answer = a })))
      → WillTell E c k r.id
  told k a sent = inr (_, sent, (sym its_master, refl, refl, refl, its_epoch, its_version))

  -- it is told that it is stored
  told_stored : (a : Answer) → E (reply n m true r.id a) → Answers E m r.id
  told_stored a sent = inl (_, sent, (refl, refl, refl))

  -- it is held back
  held_back : (index : ℕ) (request : Request) (acknowledged : ℕ) (log : List Entry) (k : MasterState)
      → k.held ≡ insert_key nat_cmp m.held index → k.log ≡ log → At log index (Op request acknowledged)
      → request.id ≡ r.id → Answers E k r.id
  held_back index request acknowledged entries k held same at id = inr (record {
    index = index;
    held = subst (λ (xs : List ℕ). IsAmong index xs) (sym held) (inserted index m.held);
    request = request;
    acknowledged = acknowledged;
    stands = subst (λ (l : List Entry). At l index (Op request acknowledged)) (sym same) at;
    its_id = id;
  })

  held_already : (index : ℕ) → has index m.held ≡ true → IsAmong index m.held
  held_already index e =
      let f = any_at (λ k. k == index) m.held e in
      let same : f.1 ≡ index = eqb-true f.1 index f.3 in
      record { place = f.0; stands = subst (λ (x : ℕ). At m.held f.0 x) same f.2 }

  again_wanted : (wish : Wish) (a : Answer) (index : ℕ) (request : Request) (acknowledged : ℕ)
      → At m.log index (Op request acknowledged) → request.id ≡ r.id
      → AllSent E (carries_out n m wish r (known_again m wish a index)) → Wanted wish (carries_out n m wish r (known_again m wish a index)).state
  again_wanted WhenSynced a index request acknowledged at id sent = held_back index request acknowledged m.log _ refl refl at id
  again_wanted AtOnce a index request acknowledged at id sent = by (has index m.free) sent
    where
      by : (t : Bool) → AllSent E (carries_out n m AtOnce r (cond t (TellAgain a) (HoldBack index)))
          → WillTell E c (carries_out n m AtOnce r (cond t (TellAgain a) (HoldBack index))).state r.id
      by true sent = told m a (sent _ (among_first _ []))
      by false sent = inl (held_back index request acknowledged m.log _ refl refl at id)

  idle_wanted : (wish : Wish) (a : Answer) (index : ℕ) (request : Request) (acknowledged : ℕ)
      → At m.log index (Op request acknowledged) → request.id ≡ r.id → (o : Option Entry) → slice_get m.log index ≡ o
      → AllSent E (carries_out n m wish r (cond (is_idle_op m index o) (known_again m wish a index) (Deny refusal.InProgress)))
      → Wanted wish (carries_out n m wish r (cond (is_idle_op m index o) (known_again m wish a index) (Deny refusal.InProgress))).state
  idle_wanted wish a index request acknowledged at id None e sent = absurd (cc (at, e))
  idle_wanted wish a index request acknowledged at id (Some (Op s t)) e sent = by (has index m.held) refl sent
    where
      by : (h : Bool) → has index m.held ≡ h
          → AllSent E (carries_out n m wish r (cond (not h) (known_again m wish a index) (Deny refusal.InProgress)))
          → Wanted wish (carries_out n m wish r (cond (not h) (known_again m wish a index) (Deny refusal.InProgress))).state
      by true is sent = of_answers wish m (inr (record { index = index; held = held_already index is; request = request; acknowledged = acknowledged; stands = at; its_id = id }))
      by false is sent = again_wanted wish a index request acknowledged at id sent
  idle_wanted wish a index request acknowledged at id (Some (Take s t)) e sent = absurd (cc (at, e))
  idle_wanted wish a index request acknowledged at id (Some (Give s t)) e sent = absurd (cc (at, e))
  idle_wanted wish a index request acknowledged at id (Some (Expire s)) e sent = absurd (cc (at, e))

  known_wanted : (wish : Wish) (a : Answer) (index : ℕ) (request : Request) (acknowledged : ℕ)
      → At m.log index (Op request acknowledged) → request.id ≡ r.id
      → AllSent E (carries_out n m wish r (known_at m wish a index)) → Wanted wish (carries_out n m wish r (known_at m wish a index)).state
  known_wanted wish a index request acknowledged at id sent = by (nat_lt index (synced m)) sent
    where
      by : (t : Bool)
          → AllSent E (carries_out n m wish r (cond t (Tell a) (if is_idle_op m index (slice_get m.log index) then known_again m wish a index else Deny refusal.InProgress)))
          → Wanted wish (carries_out n m wish r (cond t (Tell a) (if is_idle_op m index (slice_get m.log index) then known_again m wish a index else Deny refusal.InProgress))).state
      by true sent = of_answers wish m (told_stored a (sent _ (among_first _ [])))
      by false sent = idle_wanted wish a index request acknowledged at id (slice_get m.log index) refl sent

  executes_wanted : (wish : Wish) (clean : Bool) → AllSent E (executes n m wish r clean)
      → Wanted wish (executes n m wish r clean).state
  executes_wanted AtOnce true sent = told _ _ (sent _ (among_first _ []))
  executes_wanted AtOnce false sent = inl (held_back (length m.log) r r.first (m.log ++ Op r r.first ∷ []) _ refl refl (at_push m.log (Op r r.first) (length m.log) refl) refl)
  executes_wanted WhenSynced true sent = held_back (length m.log) r r.first (m.log ++ Op r r.first ∷ []) _ refl refl (at_push m.log (Op r r.first) (length m.log) refl) refl
  executes_wanted WhenSynced false sent = held_back (length m.log) r r.first (m.log ++ Op r r.first ∷ []) _ refl refl (at_push m.log (Op r r.first) (length m.log) refl) refl

  rules_wanted : (wish : Wish) (ask : Ask) (epoch opens : Bool) (found : Check) (version owned : Bool) → epoch ≡ true
      → opens ≡ true → IsFine m r.id found → version ≡ true → owned ≡ true
      → AllSent E (carries_out n m wish r (by_rules m wish ask epoch opens found version owned)) → Wanted wish (carries_out n m wish r (by_rules m wish ask epoch opens found version owned)).state
  rules_wanted wish ask false opens found version owned e o k v w sent = absurd cc
  rules_wanted wish ask true false found version owned e o k v w sent = absurd cc
  rules_wanted wish ask true true Expired version owned e o k v w sent = absurd k
  rules_wanted wish ask true true (Stale first) version owned e o k v w sent = absurd k
  rules_wanted wish ask true true (Known a index) version owned e o k v w sent = known_wanted wish a index k.0 k.1 k.2 k.3 sent
  rules_wanted wish ask true true New false owned e o k v w sent = absurd cc
  rules_wanted wish ask true true New true false e o k v w sent = absurd cc
  rules_wanted wish ask true true New true true e o k v w sent = executes_wanted wish (is_clean m r.command) sent

opens_at : (p : Phase) → p ≡ Open → is_open p ≡ true
opens_at Open e = refl
opens_at (Switching s) e = absurd cc

-- what asks as the client knows the master is answered, or waits
pub asked : (E : Message → Type 0) (n : ℕ) (m : MasterState) (c : PartConfig) (its_master : c.master ≡ master_node n) (its_epoch : m.epoch ≡ c.epoch) (its_version : m.version ≡ c.version)
    → (wish : Wish) (ask : Ask) → ask.epoch ≡ c.epoch → ask.version ≡ c.version → m.phase ≡ Open → IsFine m ask.request.id (check (state_of m).table ask.request.id) → owns_all (state_of m).owned (hashes ask.request.command) ≡ true
    → AllSent E (on_update n m wish ask) → Wanted E n m c its_master its_epoch its_version ask.request wish (on_update n m wish ask).state
unfolding on_update
asked E n m c its_master its_epoch its_version wish ask epoch version serves fine owns sent =
    rules_wanted E n m c its_master its_epoch its_version ask.request wish ask (ask.epoch == m.epoch) (is_open m.phase) (check (state_of m).table ask.request.id) (ask.version == m.version) (owns_all (state_of m).owned (hashes ask.request.command))
    (eq-eqb ask.epoch m.epoch (epoch ∙ sym its_epoch)) (opens_at m.phase serves) fine (eq-eqb ask.version m.version (version ∙ sym its_version)) owns sent
