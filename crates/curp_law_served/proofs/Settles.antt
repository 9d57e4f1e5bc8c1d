-- A backup has so many entries: the master settles, and answers what each backup has.
use Rattle.std.proofs.Common.{◌≡◌, ◌≤◌, ◌⊎◌, inl, inr, ℕ, ◌+◌, Bool, true, false, not, cond, List, [], ◌∷◌, ◌++◌, map, nat_lt, slice_get, Option, refl, ap, sym, subst, arith}
use Rattle.std.specs.List.{filter, flat_map, list_any}
use Rattle.std.proofs.lemmas.Bool.{cases_Bool, ltb-false, not-true, or_left, or_right}
use Rattle.curp_base.specs.Words.{At, Each}
use Rattle.curp_base.proofs.Lists.{Each-weaker}
use Rattle.curp_cmd.specs.Node.{client_node, is_among, same_node}
use Rattle.curp_cmd.proofs.Nodes.{same_node-self}
use Rattle.curp_cmd.specs.declared.command.RequestId.{RequestId}
use Rattle.curp_cmd.specs.declared.entry.Entry.{Entry}
use Rattle.curp_cmd.specs.declared.node.NodeId.{NodeId}
use Rattle.curp_msg.specs.Moved.{quiet, says}
use Rattle.curp_msg.specs.declared.answer.AppendAnswer.{AppendAnswer}
use Rattle.curp_msg.specs.declared.answer.AppendAnswer.TheVariants.{Stored, Fenced, Gap, NotInstalled}
use Rattle.curp_msg.specs.declared.body.Appended.{Appended}
use Rattle.curp_msg.specs.declared.body.Body.TheVariants as body
use Rattle.curp_msg.specs.declared.message.Message.{Message}
use Rattle.curp_facts.specs.Facts.{IsAmong}
use Rattle.curp_model.specs.Master.{Acknowledged, Captured, MasterState, Open, Phase, answer_at, between, fresh_backups, from_backup, goes_on, is_ready, moved_entry, on_appended, on_stored, raised, reply, settle, stored_on, synced, synced_replies, synced_reply, value_of}
use Rattle.curp_law_kept.proofs.Gives.{each_among, each_filtered, settled_state}
use Rattle.curp_law_served.specs.Ways.{Answers, Appends, CaptureGoes, Covered, WillCover, Gives, HeldGoes, IsCaptured, IsHeldFor, AnswersStored, MasterGoes, OnWay, Stores, SyncedReply, ValueOf}
use Rattle.curp_law_served.specs.Ways.WillCover.{Comes, Goes, Known}
use Rattle.curp_law_served.proofs.Acks.{raised_own, raised_rises}
use Rattle.curp_law_served.proofs.Lists.{among_cases, among_filter, among_first, among_flat, among_left, among_map, among_right, each_of}
use Rattle.curp_law_served.proofs.RoundsWait.{AllSent, Keeps}
use Rattle.curp_law_served.proofs.Ways as ways

-- a node that is among others is found among them
pub is_found : (node : NodeId) (nodes : List NodeId) → IsAmong node nodes → is_among node nodes ≡ true
is_found node [] a = absurd (elim_none node a)
  where
    elim_none : (x : NodeId) → IsAmong {A = NodeId} x [] → ⊥
    elim_none x a = none x a.place a.stands
      where
        none : (x : NodeId) (k : ℕ) → At {A = NodeId} [] k x → ⊥
        none x k h = cc
is_found node (x ∷ xs) a = elim (among_cases node x xs a) [
  | inl same ↦ or_left (same_node node x) (list_any (same_node node) xs) (subst (λ (z : NodeId). same_node node z ≡ true) (sym same) (same_node-self node))
  | inr more ↦ or_right (same_node node x) (list_any (same_node node) xs) (is_found node xs more)
]

module _ (D E : Message → Type 0) (from to : NodeId) (a : Appended)
    (split : (x : Message) → D x → (x ≡ says from to (body.Appended a)) ⊎ E x) (n : ℕ) (m : MasterState)
    (goes : MasterGoes D n m) where
  -- an append that was on its way still is
  append_goes : (epoch : ℕ) (k : NodeId) (long round : ℕ) → OnWay D (Appends epoch k long round)
      → OnWay E (Appends epoch k long round)
  append_goes epoch k long round w = ways.carry D E from to (body.Appended a) split (Appends epoch k long round) (λ p. p) w

  -- what covers still does
  abbrev Overs : List Acknowledged → Type 0
  Overs acks = (k : NodeId) → IsAmong k m.backups → (long round : ℕ) → WillCover D m.acknowledged m.epoch n k long round → WillCover E acks m.epoch n k long round

  covered_over : (acks : List Acknowledged) → Overs acks → (long round : ℕ) → Covered D n m long round
      → Each (λ k. WillCover E acks m.epoch n k long round) m.backups
  covered_over acks over long round all = each_among (λ k. WillCover E acks m.epoch n k long round) m.backups
      (λ k among. over k among long round (each_of (λ k. WillCover D m.acknowledged m.epoch n k long round) m.backups all k among))

  abbrev learnt : List Acknowledged → MasterState
  learnt acks = record m { acknowledged = acks }

  -- nothing changes
  rests : Overs m.acknowledged → Keeps D E n m (quiet m)
  rests over = record {
    goes = record {
      held = Each-weaker (HeldGoes D n m) (HeldGoes E n m) (λ j h. record { unsynced = h.unsynced; within = h.within; covered = covered_over m.acknowledged over (j + 1) 0 h.covered }) m.held goes.held;
      captures = Each-weaker (CaptureGoes D n m) (CaptureGoes E n m) (λ c h. record { unready = h.unready; within = h.within; covered = covered_over m.acknowledged over c.length c.round h.covered }) m.captures goes.captures;
    };
    answers = ways.answers_go D E from to (body.Appended a) split tt m;
    gives = ways.gives_go D E from to (body.Appended a) split tt m;
    same = record { part = refl; epoch = refl; version = refl; backups = refl; witnesses = refl; phase = refl };
    round = omega arith;
    captured = omega arith;
  }

  module _ (acks : List Acknowledged) (over : Overs acks) (sent : AllSent E (settle n (learnt acks))) where
    abbrev k : MasterState
    k = learnt acks

    abbrev is_low : ℕ → Bool
    is_low index = nat_lt index (synced k)

    abbrev values : List Message
    values = map (value_of n k) (filter (is_ready k) m.captures)

    abbrev replies : List Message
    replies = synced_replies n k (filter is_low m.held)

    abbrev moved : List Message
    moved = flat_map (moved_entry n) (between m.settled (synced k) m.log)

    sent_reply : (x : Message) → IsAmong x replies → E x
    unfolding settle
    sent_reply x among = sent x (among_left x (replies ++ values) moved (among_left x replies values among))

    sent_value : (x : Message) → IsAmong x values → E x
    unfolding settle
    sent_value x among = sent x (among_left x (replies ++ values) moved (among_right x replies values among))

    held_goes : (j : ℕ) → HeldGoes D n m j × (not (is_low j) ≡ true) → HeldGoes E n (settled_state k) j
    held_goes j h = record { unsynced = ltb-false j (synced k) (not-true (is_low j) h.1); within = h.0.within; covered = covered_over acks over (j + 1) 0 h.0.covered }

    capture_goes : (c : Captured) → CaptureGoes D n m c × (not (is_ready k c) ≡ true)
        → CaptureGoes E n (settled_state k) c
    capture_goes c h = record { unready = not-true (is_ready k c) h.1; within = h.0.within; covered = covered_over acks over c.length c.round h.0.covered }

    settled_goes : MasterGoes E n (settled_state k)
    settled_goes = record {
      held = Each-weaker (λ j. HeldGoes D n m j × (not (is_low j) ≡ true)) (HeldGoes E n (settled_state k)) held_goes (filter (λ j. not (is_low j)) m.held)
          (each_filtered (HeldGoes D n m) (λ j. not (is_low j)) m.held goes.held);
      captures = Each-weaker (λ c. CaptureGoes D n m c × (not (is_ready k c) ≡ true)) (CaptureGoes E n (settled_state k)) capture_goes (filter (λ c. not (is_ready k c)) m.captures)
          (each_filtered (CaptureGoes D n m) (λ c. not (is_ready k c)) m.captures goes.captures);
    }

    -- a held op is answered, or still held
    held_answers : (id : RequestId) → IsHeldFor m id → Answers E (settled_state k) id
    held_answers id h = elim (cases_Bool (is_low h.index)) [
      | inl low ↦ inl (
          let x : Message = reply n k true h.request.id (answer_at k h.index h.request) in
          let it : IsAmong x (synced_reply n k h.index (slice_get m.log h.index)) =
          subst (λ (o : Option Entry). IsAmong x (synced_reply n k h.index o)) (sym h.stands) (among_first x []) in (
            x,
            sent_reply x (among_flat (λ (index : ℕ). synced_reply n k index (slice_get m.log index)) (filter is_low m.held) h.index x (among_filter is_low m.held h.index h.held low) it),
            (ap (λ (i : RequestId). client_node i.client) h.its_id, h.its_id, refl),
          ))
      | inr high ↦ inr (record { index = h.index; held = among_filter (λ j. not (is_low j)) m.held h.index h.held (ap not high); request = h.request; acknowledged = h.acknowledged; stands = h.stands; its_id = h.its_id })
    ]

    captured_gives : (id : RequestId) → IsCaptured m id → Gives E (settled_state k) id
    captured_gives id h = elim (cases_Bool (is_ready k h.capture)) [
      | inl ready ↦ inl (
          let x : Message = value_of n k h.capture in (
            x,
            sent_value x (among_map (value_of n k) h.capture (filter (is_ready k) m.captures) (among_filter (is_ready k) m.captures h.capture h.waits ready)),
            (ap (λ (i : RequestId). client_node i.client) h.its_id, h.its_id),
          ))
      | inr waits ↦ inr (record { capture = h.capture; waits = among_filter (λ c. not (is_ready k c)) m.captures h.capture h.waits (ap not waits); its_id = h.its_id })
    ]

    settles : Keeps D E n m (settle n k)
    unfolding settle
    settles = record {
      goes = settled_goes;
      answers = λ id o. elim o [ inl w ↦ inl (ways.carry D E from to (body.Appended a) split (SyncedReply id) (λ p. p) w) | inr h ↦ held_answers id h ];
      gives = λ id o. elim o [ inl w ↦ inl (ways.carry D E from to (body.Appended a) split (ValueOf id) (λ p. p) w) | inr h ↦ captured_gives id h ];
      same = record { part = refl; epoch = refl; version = refl; backups = refl; witnesses = refl; phase = refl };
      round = omega arith;
      captured = omega arith;
    }

  -- ---- by the answer

  module _ (long : ℕ) (is : a.answer ≡ Stored long) where
    over_raised : Overs (raised m.acknowledged from long a.round)
    over_raised k among l r (Known low late) =
        let up = raised_rises long a.round m.acknowledged from k in
        Known (omega (arith, low, up.length)) (omega (arith, late, up.round))
    over_raised k among l r (Goes w) = Goes (append_goes m.epoch k l r w)
    over_raised k among l r (Comes w) = elim (ways.meets D E from to (body.Appended a) split (Stores n k l r) w) [
      | inl it ↦
          let has : (l ≤ long) × (r ≤ a.round) = subst (λ (s : AppendAnswer). AnswersStored l r a.round s) is it.2 in
          let own = subst (λ (z : NodeId). (long ≤ (from_backup (raised m.acknowledged from long a.round) z).length) × (a.round ≤ (from_backup (raised m.acknowledged from long a.round) z).round)) it.0
          ((raised_own long a.round m.acknowledged from).length, (raised_own long a.round m.acknowledged from).round) in
          Known (omega (arith, has.0, own.0)) (omega (arith, has.1, own.1))
      | inr later ↦ Comes later
    ]

    -- it is no backup of the list
    over_stranger : is_among from (stored_on m) ≡ false → Overs m.acknowledged
    over_stranger apart k among l r (Known low late) = Known low late
    over_stranger apart k among l r (Goes w) = Goes (append_goes m.epoch k l r w)
    over_stranger apart k among l r (Comes w) = elim (ways.meets D E from to (body.Appended a) split (Stores n k l r) w) [
      | inl it ↦
          let found : is_among k (stored_on m) ≡ true = is_found k (stored_on m) (among_left k m.backups (fresh_backups m.phase m.backups) among) in
          let found2 : is_among from (stored_on m) ≡ true = subst (λ (z : NodeId). is_among z (stored_on m) ≡ true) (sym it.0) found in
          absurd (cc (apart, found2))
      | inr later ↦ Comes later
    ]

    goes_in : (p : Phase) → p ≡ Open → AllSent E (goes_on n (learnt (raised m.acknowledged from long a.round)) p)
        → Keeps D E n m (goes_on n (learnt (raised m.acknowledged from long a.round)) p)
    goes_in Open e sent = settles (raised m.acknowledged from long a.round) over_raised sent
    goes_in _ e sent = absurd cc

    pub stored : m.phase ≡ Open → AllSent E (on_stored n m from long a.round)
        → Keeps D E n m (on_stored n m from long a.round)
    stored serves sent = by (is_among from (stored_on m)) refl sent
      where
        by : (t : Bool) → is_among from (stored_on m) ≡ t
            → AllSent E (cond t (goes_on n (learnt (raised m.acknowledged from long a.round)) m.phase) (quiet m))
            → Keeps D E n m (cond t (goes_on n (learnt (raised m.acknowledged from long a.round)) m.phase) (quiet m))
        by true e sent = goes_in m.phase serves sent
        by false e sent = rests (over_stranger e)

  -- another answer tells nothing
  over_other : ((l r : ℕ) → AnswersStored l r a.round a.answer → ⊥) → Overs m.acknowledged
  over_other other k among l r (Known low late) = Known low late
  over_other other k among l r (Goes w) = Goes (append_goes m.epoch k l r w)
  over_other other k among l r (Comes w) = elim (ways.meets D E from to (body.Appended a) split (Stores n k l r) w) [
    | inl it ↦ absurd (other l r it.2)
    | inr later ↦ Comes later
  ]

  pub appended : m.phase ≡ Open → AllSent E (on_appended n m from a.round a.answer)
      → Keeps D E n m (on_appended n m from a.round a.answer)
  unfolding on_appended
  appended serves sent = by a.answer refl sent
    where
      by : (s : AppendAnswer) → a.answer ≡ s → AllSent E (on_appended n m from a.round s)
          → Keeps D E n m (on_appended n m from a.round s)
      by (Stored long) is sent = stored long is serves sent
      by (Fenced fence) is sent = rests (over_other (λ l r it. subst (λ (s : AppendAnswer). AnswersStored l r a.round s) is it))
      by (Gap long) is sent = rests (over_other (λ l r it. subst (λ (s : AppendAnswer). AnswersStored l r a.round s) is it))
      by NotInstalled is sent = rests (over_other (λ l r it. subst (λ (s : AppendAnswer). AnswersStored l r a.round s) is it))
